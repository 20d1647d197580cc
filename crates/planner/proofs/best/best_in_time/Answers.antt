use mathlib.Core.Path.{refl}
use native.Mathlib.Nat.{le_trans, le_of_eq}
use Rattle.instance.specs.Held.{held_taskcount}
use Rattle.planner.specs.TimedChoices.{held_site_offered, held_found_in_time}
use Rattle.offers.specs.TimedOptions.{no_timing_offered}
use Rattle.planner.proofs.best.best_in_time.Goals as goal

pub fill_timings-requires : goal.fill_timings-requires
fill_timings-requires c = record { sound = c.requires.sound; timings_offered = no_timing_offered _ _ refl }

pub idle_span_cost-requires : goal.idle_span_cost-requires
idle_span_cost-requires c = c.requires.sound

pub returns : goal.returns
returns c =
    let pre = c.requires in
    let chosen = held_found_in_time _ pre.sound pre.by_index.1 c.fill_timings.ensures c.idle_span_cost.ensures c.cheapest_in_time.ensures in
    record { value = chosen.found; plan_after = chosen.written }

pub cheapest_in_time-requires : goal.cheapest_in_time-requires
cheapest_in_time-requires c =
    let pre = c.requires in
    record { site_offered = held_site_offered _ pre.sound pre.by_index.1 c.fill_timings.ensures c.idle_span_cost.ensures; site_in_bounds = le_trans (le_of_eq (held_taskcount _ pre.sound)) pre.inst_in_bounds }
