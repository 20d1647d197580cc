use mathlib.Core.Path.{◌≡◌}
use native.Mathlib.Omega.{arith}
use lib.ListN.{length}
use Rattle.std.proofs.Common.{rules}
use borrow.Author.Tests.{tests}
use Rattle.dispatch.specs.EarliestSoFar.{column_of, is_better, is_no_better, none_picked, pick_passes_idle, pick_keeps, pick_takes}
use Rattle.dispatch.specs.Rows.{due_at}
use Rattle.dispatch.proofs.Columns.earliest.Goals as goal
use Rattle.dispatch.proofs.Columns.earliest.Goals.{then-left-i-ne0+then-is_none_or, then-left-i-ne0+else-is_none_or, else-left-i-ne0}

pub loop-i-init : goal.loop-i-init
loop-i-init c = none_picked _ _

pub returns : goal.returns
returns c =
    let at = c.loop-i in
    let all : at.i ≡ length c.args.self.now.periods.now = omega arith in
    let mapped : c.map.result ≡ column_of at.best = search rules in
    rw (mapped, ← all) at.invariant.number

pub loop-i-preserved : goal.loop-i-preserved
unfolding due_at
loop-i-preserved c =
    let at = c.loop-i in
    elim c.if-left-i-ne0.branch [
      | then-left-i-ne0+then-is_none_or w ↦
          rw (w.best-is, w.due_at-due.ensures)
          (pick_takes _ _ at.i at.best at.invariant w.if-left-i-ne0.true
          (rw w.due_at-due.ensures at (is_better at.best w.due_at-due.result _ _ (λ x p. search (rules, tests)) w.is_none_or.ensures w.if-is_none_or.true)))
      | then-left-i-ne0+else-is_none_or w ↦
          let kept = is_no_better at.best w.due_at-due.result _ _ (λ x p. search (rules, tests)) w.is_none_or.ensures w.if-is_none_or.false in
          rw (w.best-is, kept.1)
          (pick_keeps _ _ at.i kept.0 (rw kept.1 at at.invariant) w.if-left-i-ne0.true (omega (arith, w.due_at-due.ensures, kept.2)))
      | else-left-i-ne0 w ↦ rw w.best-is (pick_passes_idle _ _ at.i at.best at.invariant w.if-left-i-ne0.false)
    ]
