use Prim.Native.Nat.{◌<◌}
use mathlib.Core.Path.{◌≡◌, sym, ◌∙◌}
use native.Mathlib.Omega.{arith}
use borrow.Author.Count.{below_none, below_more}
use Rattle.laws.specs.FirstLaws.{first_unique}
use Rattle.laws.specs.Search.{first}
use Rattle.instance.specs.Held.{problem_in, held_task, held_taskcount}
use Rattle.instance.specs.Node.{task_count}
use Rattle.refusals.specs.declared.Refusal.TheVariants.{GivenPlan}
use Rattle.plan_rules.specs.HeldPlans.{most_choice_at_most, held_bad_choice}
use Rattle.plan_rules.specs.HeldQuantities.{level_count_at_most}
use Rattle.plan_rules.specs.Plans.{bad_choice, choices_pass}
use Rattle.refusals.specs.VerdictLaws.{found_is_refused, none_found_passes, other_length_is_refused, same_length_goes_on}
use Rattle.plan_rules.proofs.plan.choices_pass.Goals as goal
use Rattle.plan_rules.proofs.plan.choices_pass.Goals.{After-is_bad_choice, In-loop-i}

task_below : (c : goal.In-loop-i) → c.loop-i.i < task_count (problem_in c.args.inst)
task_below c = omega (arith, held_taskcount _ c.requires, c.loop-i-test.true)

is_bad : (c : goal.After-is_bad_choice) →
    let start = c in
    c.is_bad_choice.result ≡ bad_choice (problem_in start.args.inst) start.args.plan.now c.loop-i.i
is_bad c =
    let start = c in
    c.is_bad_choice.ensures ∙ held_bad_choice _ start.requires start.args.plan.now _ _
    (held_task _ start.requires _ (omega (arith, held_taskcount _ c.requires, c.loop-i-test.true)))

pub returns-then-plan-inst : goal.returns-then-plan-inst
unfolding choices_pass
returns-then-plan-inst c =
    rw c.min.ensures (other_length_is_refused GivenPlan _ _ (held_taskcount _ c.requires) _ _ c.if-plan-inst.true)

pub overflow_cast-most : goal.overflow_cast-most
overflow_cast-most c = omega (arith, level_count_at_most _ c.requires)

pub overflow_mul-most : goal.overflow_mul-most
overflow_mul-most c = omega (arith, most_choice_at_most _ c.requires)

pub loop-i-init : goal.loop-i-init
loop-i-init c = (omega arith, below_none _)

pub offset_bounds-inst-i : goal.offset_bounds-inst-i
offset_bounds-inst-i c = omega (arith, task_below (goal.at.offset_bounds-inst-i c).In-loop-i, c.requires.valid.task_count_bound)

pub bounds-inst-i : goal.bounds-inst-i
bounds-inst-i c = omega (arith, task_below (goal.at.bounds-inst-i c).In-loop-i, c.requires.valid.task_count_bound)

pub offset_bounds-plan-i : goal.offset_bounds-plan-i
offset_bounds-plan-i c =
    omega (arith, task_below (goal.at.offset_bounds-plan-i c).In-loop-i, c.requires.valid.task_count_bound)

pub bounds-plan-i : goal.bounds-plan-i
bounds-plan-i c = omega (arith, c.if-plan-inst.false, c.loop-i-test.true)

pub loop-i-smaller : goal.loop-i-smaller
loop-i-smaller c = omega (arith, c.loop-i-test.true)

pub loop-i-preserved : goal.loop-i-preserved
loop-i-preserved c = (
  omega (arith, c.loop-i-test.true),
  below_more _ _ c.loop-i.invariant.1
      (sym (is_bad (goal.at.loop-i-preserved c).After-is_bad_choice) ∙ c.if-is_bad_choice.false),
)

pub returns-then-is_bad_choice : goal.returns-then-is_bad_choice
unfolding choices_pass
returns-then-is_bad_choice c =
    let wanted = held_taskcount _ c.requires in
    let found : c.loop-i.i ≡ first (bad_choice (problem_in c.args.inst) c.args.plan.now) (task_count (problem_in c.args.inst)) =
    sym (first_unique _ (record {
      at_most = omega (arith, c.loop-i.invariant.0, wanted);
      none_below = c.loop-i.invariant.1;
      passes_below = λ below. sym (is_bad (goal.at.returns-then-is_bad_choice c).After-is_bad_choice) ∙ c.if-is_bad_choice.true;
    })) in
    found_is_refused GivenPlan _ _ wanted _ _ found c.loop-i-test.true
    ∙ same_length_goes_on GivenPlan _ _ wanted _ _ c.if-plan-inst.false

pub returns : goal.returns
unfolding choices_pass
returns c =
    let wanted = held_taskcount _ c.requires in
    let found : c.loop-i.i ≡ first (bad_choice (problem_in c.args.inst) c.args.plan.now) (task_count (problem_in c.args.inst)) =
    sym (first_unique _ (record {
      at_most = omega (arith, c.loop-i.invariant.0, wanted);
      none_below = c.loop-i.invariant.1;
      passes_below = λ below. absurd (omega (arith, c.loop-i-test.false));
    })) in
    none_found_passes GivenPlan _ _ wanted _ _ found c.loop-i-test.false ∙ same_length_goes_on GivenPlan _ _ wanted _ _ c.if-plan-inst.false
