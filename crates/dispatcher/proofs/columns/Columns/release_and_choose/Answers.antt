use Prim.Native.Nat.{ℕ, suc, ◌<◌}
use mathlib.Core.List.{[]}
use mathlib.Core.Bool.{Bool, cond, ◌&&◌}
use mathlib.Core.Path.{◌≡◌, ap, ap₂, ◌∙◌}
use native.Mathlib.Omega.{arith}
use borrow.Author.Rules.{rules}
use lib.Dec.{eqb}
use lib.ListN.{length, get_or}
use Rattle.ranges.specs.Limits.{most_tasks}
use Rattle.dispatch.specs.Calls.{after_end}
use Rattle.dispatch.specs.Columns.{column_tasks}
use Rattle.dispatch.specs.EarliestSoFar.{column_of, none_picked, picks_next}
use Rattle.dispatch.specs.Rows.{after_release, due_at}
use Rattle.dispatcher.specs.Places.{place_of, none_placed, place_within, not_yet_placed, next_placed}
use Rattle.dispatcher.specs.Ticks.{ready_in}
use Rattle.dispatcher.proofs.columns.Columns.release_and_choose.Goals as goal
use Rattle.dispatcher.proofs.columns.Columns.release_and_choose.Goals.{After-ready_ticks-ready, In-loop-j}

place_below : (c : goal.In-loop-j) → place_of c.args.self.now.numbers.now c.loop-j.j < most_tasks
place_below c = place_within _ c.args.self.now.well_formed.numbers_rise _ c.loop-j-test.true

pub loop-j-init : goal.loop-j-init
loop-j-init c =
    (none_placed _ _ _ (search rules), none_picked _ _)

pub bounds-after-place : goal.bounds-after-place
bounds-after-place c = place_below (goal.at.bounds-after-place c).In-loop-j

pub bounds-after-place-in-loop-j : goal.bounds-after-place-in-loop-j
bounds-after-place-in-loop-j c = place_below (goal.at.bounds-after-place-in-loop-j c).In-loop-j

is_ready : (c : goal.After-ready_ticks-ready) →
    let args = c.args in
    c.ready_ticks-ready.result ≡ ready_in args.self.now.numbers.now args.self.now.periods.now args.self.now.ticks.now args.state args.ended c.loop-j.j
unfolding after_release after_end
is_ready c =
    let args = c.args in
    let at = c.loop-j in
    let below = c.loop-j-test.true in
    let as_before = not_yet_placed args.self.now.numbers.now _ args.state.left c.args.self.now.well_formed.numbers_rise at.after at.j at.invariant.0 below in
    let number : get_or args.self.now.numbers.now at.j 0 ≡ suc (place_of args.self.now.numbers.now at.j) = omega (arith, c.args.self.now.well_formed.numbers_rise.above_0 _ below) in
    c.ready_ticks-ready.ensures
    ∙ ap₂ (λ (released over : Bool). cond released (get_or args.self.now.ticks.now at.j 0) (cond over 0 (get_or at.after (place_of args.self.now.numbers.now at.j) 0)))
    c.is_released-released.ensures (c.is_over-over.ensures ∙ ap (λ (k : ℕ). args.ended && eqb k args.state.last) number)
    ∙ ap (λ (k : ℕ). after_release (column_tasks args.self.now.periods.now [] args.self.now.ticks.now) args.state.tick at.j
    (after_end args.ended args.state.last (place_of args.self.now.numbers.now at.j) k)) as_before

pub loop-j-preserved : goal.loop-j-preserved
unfolding due_at
loop-j-preserved c =
    let args = c.args in
    let at = c.loop-j in
    let below = c.loop-j-test.true in
    let ready = is_ready (goal.at.loop-j-preserved c).After-ready_ticks-ready in (
      next_placed args.self.now.numbers.now _ args.state.left c.args.self.now.well_formed.numbers_rise at.after at.j at.invariant.0 below _ ready,
      picks_next _ _ at.j _ _ ready c.due_at.ensures at.invariant.1 c.earlier-best.ensures,
    )

pub returns : goal.returns
returns c =
    let at = c.loop-j in
    let all : at.j ≡ length c.args.self.now.numbers.now = omega arith in
    let mapped : c.map.result ≡ column_of at.best = search rules in
    record { released = rw all at at.invariant.0; is_earliest = rw (mapped, ← all) at.invariant.1.number }
