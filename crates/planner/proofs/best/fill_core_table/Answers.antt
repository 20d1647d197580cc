use Rattle.planner.specs.HeldChoices.{held_knapsacks_fit, held_charge_ready, held_core_filled}
use Rattle.planner.proofs.best.fill_core_table.Goals as goal

pub fill_knapsacks-requires : goal.fill_knapsacks-requires
fill_knapsacks-requires c =
    let pre = c.requires in
    rw c.core_of.ensures (held_knapsacks_fit _ pre.sound pre.levels_offered pre.most_sets_in_bounds.0 pre.most_sets_in_bounds.1)

pub charge_idle_once-requires : goal.charge_idle_once-requires
charge_idle_once-requires c =
    let pre = c.requires in
    held_charge_ready _ pre.sound pre.levels_offered (rw c.core_of.ensures at c.fill_knapsacks.ensures) c.idle_span_cost.ensures

pub returns : goal.returns
returns c =
    let pre = c.requires in
    held_core_filled _ pre.sound pre.levels_offered (rw c.core_of.ensures at c.fill_knapsacks.ensures) c.idle_span_cost.ensures
    pre.due_at_period_end c.charge_idle_once.ensures c.charge_idle_once.auto.costs
