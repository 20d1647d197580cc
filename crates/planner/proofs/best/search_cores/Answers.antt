use native.Mathlib.Nat.{le_refl, le_trans, le_of_eq}
use Rattle.instance.specs.Held.{held_taskcount}
use Rattle.partition.specs.Tables.{most_sets}
use Rattle.planner.specs.HeldChoices.{held_search_ready, held_searched_chosen}
use Rattle.planner.proofs.best.search_cores.Goals as goal

pub fill_core_table-requires : goal.fill_core_table-requires
fill_core_table-requires c =
    let start = c in
    record { sound = start.requires.sound; due_at_period_end = start.requires.due_at_period_end; levels_offered = start.requires.options_offered.levels; most_sets_in_bounds = (le_refl most_sets, le_refl most_sets) }

pub cheapest_plan-requires : goal.cheapest_plan-requires
cheapest_plan-requires c =
    let start = c in
    record { search_ready = held_search_ready _ start.requires.sound start.requires.options_offered c.fill_core_table.ensures; shape_in_bounds = le_trans (le_of_eq (held_taskcount _ start.requires.sound)) start.requires.inst_in_bounds }

pub returns : goal.returns
returns c =
    let start = c in
    let chosen = held_searched_chosen _ start.requires.sound start.requires.options_offered c.fill_core_table.ensures c.cheapest_plan.ensures in
    record { value = chosen.found; plan_after = chosen.written }
