use Rattle.std.specs.Prelude.{ℕ, ◌≤◌, Ok, Err, List, length, take}
use Rattle.std.proofs.Common.{◌≡◌, ◌∙◌, arith, rules}
use mathlib.Core.Path.{ap₂}
use lib.Seq.{length-take-le}
use Rattle.instance.specs.Held.{problem_in, held_taskcount}
use Rattle.tables.specs.Tables.{table_size}
use Rattle.prices.specs.declared.amounts.Price.{Price}
use Rattle.planner.specs.Outcomes.{plan_outcome_of}
use Rattle.planner.specs.PlanLaws.{plan_given, plan_from, short_plan_outcome, short_table_outcome, chosen_outcome, chosen_passes, told_cost, told_none}
use Rattle.planner.proofs.planning.plan_read.Goals as goal
use Rattle.planner.proofs.planning.plan_read.Goals.{After-best_choices, Else-table-size, In_ok-ok_or}

pub returns-then-plan-n : goal.returns-then-plan-n
returns-then-plan-n c = short_plan_outcome _ _ (held_taskcount _ c.requires) _ _ c.if-plan-n.true

room_for_table : (c : goal.Else-table-size) → table_size (problem_in c.args.inst) ≤ length c.args.table.now
room_for_table c = omega (arith, c.table_size-size.ensures, c.if-table-size.false)

outcome_of_chosen : (c : goal.After-best_choices) →
    let args = c.args in
    plan_from (problem_in args.inst) args.inst.taskcount args.table.now c.best_choices.result c.best_choices.new.plan
    ≡ plan_outcome_of (Ok (problem_in args.inst)) args.plan.now args.table.now
outcome_of_chosen c =
    chosen_outcome _ _ (held_taskcount _ c.requires) _ _ c.if-plan-n.false _ _ c.best_choices.ensures.value
    c.best_choices.ensures.plan_after
    (omega (arith, c.table_size-size.ensures, c.if-table-size.false))

one_choice_each : (c : goal.In_ok-ok_or) → length (take c.args.inst.taskcount c.best_choices.new.plan) ≡ c.args.inst.taskcount
one_choice_each c =
    length-take-le c.args.inst.taskcount c.best_choices.new.plan (omega (arith, c.best_choices.auto.plan, c.if-plan-n.false))

pub returns-then-table-size : goal.returns-then-table-size
returns-then-table-size c =
    short_table_outcome _ _ (held_taskcount _ c.requires) _ _ c.if-plan-n.false _ c.table_size-size.ensures c.if-table-size.true

pub best_choices-requires : goal.best_choices-requires
best_choices-requires c =
    let sound = c.requires in record { sound = sound; inst_in_bounds = omega (arith, held_taskcount _ sound, c.if-plan-n.false) }

pub returns-in_err-ok_or : goal.returns-in_err-ok_or
returns-in_err-ok_or c =
    let e : c.from_residual.result ≡ Err c.in_err-ok_or.field-0.0 = search rules in
    let none = told_none _ _ c.in_err-ok_or.ensures.value in
    rw (e, none.1) (rw none.0 at (outcome_of_chosen (goal.at.returns-in_err-ok_or c).After-best_choices))

pub slice_bounds-chosen-end : goal.slice_bounds-chosen-end
slice_bounds-chosen-end c = omega (arith, c.best_choices.auto.plan, c.if-plan-n.false)

pub fill_table-requires : goal.fill_table-requires
fill_table-requires c =
    let sound = c.requires in
    record {
      sound = sound;
      plan_len = one_choice_each (goal.at.fill_table-requires c).In_ok-ok_or ∙ held_taskcount _ sound;
      inst_in_bounds = room_for_table (goal.at.fill_table-requires c).Else-table-size;
    }

pub price_of-requires : goal.price_of-requires
price_of-requires c =
    record {
      sound = c.requires;
      plan_value =
          chosen_passes _ _ (held_taskcount _ c.requires) _ _ _ c.best_choices.ensures.value c.best_choices.ensures.plan_after
          (told_cost _ _ c.in_ok-ok_or.ensures.value);
    }

pub returns : goal.returns
returns c =
    ap₂ (λ (price : Price) (table : List ℕ). plan_given (Ok price) c.best_choices.new.plan table) c.price_of.ensures
    c.fill_table.ensures
    ∙ (rw (told_cost _ _ c.in_ok-ok_or.ensures.value) at (outcome_of_chosen (goal.at.returns c).After-best_choices))
