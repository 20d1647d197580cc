use Prim.Native.Nat.{◌+◌, ◌<◌}
use mathlib.Core.Path.{◌≡◌, refl, ap, ap₂, ◌∙◌}
use native.Mathlib.Numerals.{add-one}
use native.Mathlib.Omega.{arith}
use borrow.Author.Tests.{ne_eqb}
use Rattle.laws.specs.SumBounds.{sum_and_next_at_most}
use Rattle.laws.specs.Sums.{sum}
use Rattle.instance.specs.Held.{problem_in, held_task, held_taskcount}
use Rattle.instance.specs.Node.{task_count}
use Rattle.prices.specs.HeldPrices.{held_penalty_of}
use Rattle.prices.specs.PriceBounds.{penalty_of, most_penalty_of, penalty_of-at_most}
use Rattle.prices.specs.Prices.{penalty}
use Rattle.prices.proofs.amounts.all_penalty.Goals as goal
use Rattle.prices.proofs.amounts.all_penalty.Goals.{In-loop-i, then-plan-i-eq0, else-plan-i-eq0}

task_below : (c : goal.In-loop-i) → c.loop-i.i < task_count (problem_in c.args.inst)
task_below c = omega (arith, held_taskcount _ c.requires.sound, c.loop-i-test.true)

pub loop-i-init : goal.loop-i-init
unfolding sum
loop-i-init c = (omega arith, refl)

pub offset_bounds-plan-i : goal.offset_bounds-plan-i
offset_bounds-plan-i c = omega (arith, task_below (goal.at.offset_bounds-plan-i c).In-loop-i, c.requires.sound.valid.task_count_bound)

pub bounds-plan-i : goal.bounds-plan-i
bounds-plan-i c = omega (arith, task_below (goal.at.bounds-plan-i c).In-loop-i, c.requires.plan_len)

pub offset_bounds-inst-i : goal.offset_bounds-inst-i
offset_bounds-inst-i c =
    omega (arith, task_below (goal.at.offset_bounds-inst-i c).In-loop-i, c.requires.sound.valid.task_count_bound)

pub bounds-inst-i : goal.bounds-inst-i
bounds-inst-i c =
    omega (arith, task_below (goal.at.bounds-inst-i c).In-loop-i, c.requires.sound.valid.task_count_bound)

pub loop-i-smaller : goal.loop-i-smaller
loop-i-smaller c = omega (arith, c.loop-i-test.true)

pub overflow_add-penalty : goal.overflow_add-penalty
overflow_add-penalty c =
    let v = c.requires.sound.valid in
    let p = problem_in c.args.inst in
    let below = task_below (goal.at.overflow_add-penalty c).In-loop-i in
    let added : c.of_all_jobs-penalty.result ≡ penalty_of p c.args.plan.now c.loop-i.i =
    c.of_all_jobs-penalty.ensures
    ∙ held_penalty_of _ c.requires.sound _ c.args.plan.now _ c.if-plan-i-eq0.true (held_task _ c.requires.sound _ below) in
    let same = ap₂ ◌+◌ c.loop-i.invariant.1 added in
    omega (
      arith,
      sum_and_next_at_most (penalty_of p c.args.plan.now) most_penalty_of (task_count p) c.loop-i.i
          (penalty_of-at_most p v c.args.plan.now) below,
      v.task_count_bound,
    )

pub loop-i-preserved : goal.loop-i-preserved
unfolding sum
loop-i-preserved c =
    let at = c.loop-i in
    let below = task_below (goal.at.loop-i-preserved c).In-loop-i in (
      omega (arith, c.loop-i-test.true),
      rw add-one
          (elim c.if-plan-i-eq0.branch [
            | then-plan-i-eq0 w ↦
                rw w.penalty-is
                (ap₂ ◌+◌ at.invariant.1
                (w.of_all_jobs-penalty.ensures
                ∙ held_penalty_of _ c.requires.sound _ c.args.plan.now _ w.if-plan-i-eq0.true (held_task _ c.requires.sound _ below)))
            | else-plan-i-eq0 w ↦ rw (w.penalty-is, ne_eqb _ _ w.if-plan-i-eq0.false) (omega (arith, at.invariant.1))
          ]),
    )

pub returns : goal.returns
unfolding penalty
returns c =
    let at_end : c.loop-i.i ≡ task_count (problem_in c.args.inst) =
    omega (arith, c.loop-i.invariant.0, held_taskcount _ c.requires.sound, c.loop-i-test.false) in
    c.loop-i.invariant.1 ∙ ap (sum (penalty_of (problem_in c.args.inst) c.args.plan.now)) at_end
