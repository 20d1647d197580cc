use native.Mathlib.Omega.{arith}
use Rattle.instance.specs.Held.{held_taskcount}
use Rattle.planner.specs.HeldChoices.{held_key_chosen}
use Rattle.planner.proofs.best.best_by_load.Goals as goal

pub light_best-requires : goal.light_best-requires
light_best-requires c =
    let pre = c.requires in record { sound = pre.sound; due_at_period_end = pre.due_at_period_end; options_offered = pre.options_offered }

pub write_plan-requires : goal.write_plan-requires
write_plan-requires c =
    let start = c in record { le_most_items = omega (arith, start.requires.sound.valid.task_count_bound, held_taskcount _ start.requires.sound); key_bound = rw (held_taskcount _ start.requires.sound) c.in-Some.ensures.key_below; in_bounds = omega (arith, start.requires.inst_in_bounds, held_taskcount _ start.requires.sound) }

pub returns-in-Some : goal.returns-in-Some
returns-in-Some c =
    let start = c in
    let chosen = held_key_chosen _ start.requires.sound c.in-Some.ensures c.write_plan.ensures in
    record { value = chosen.found; plan_after = chosen.written }

pub search_cores-requires : goal.search_cores-requires
search_cores-requires c =
    let pre = c.requires in record { sound = pre.sound; due_at_period_end = pre.due_at_period_end; options_offered = pre.options_offered; inst_in_bounds = pre.inst_in_bounds }

pub returns : goal.returns
returns c =
    c.search_cores.ensures
