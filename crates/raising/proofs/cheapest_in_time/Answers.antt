-- `cheapest_in_time` writes the plan that the rounds find.
use Rattle.partition.specs.Tables.{room_for_sets}
use Rattle.raising.specs.SiteLaws.{plan_told}
use Rattle.raising.specs.StartTables.{site_ready}
use Rattle.raising.proofs.cheapest_in_time.Goals as goal

pub fill_weights-requires-clause-in_bounds : goal.fill_weights-requires-clause-in_bounds
fill_weights-requires-clause-in_bounds c = room_for_sets c.requires.site_offered.limits.items

pub invariant_of-offer : goal.invariant_of-offer
invariant_of-offer c =
    let offered = c.requires.site_offered in
    let filled = c.fill_weights in
    record {
      ready = site_ready offered;
      refusals = offered.refusals;
      weighed = record { for_all = rw filled.auto.weights (room_for_sets offered.limits.items); each = filled.ensures };
    }

pub returns : goal.returns
returns c =
    let best = c.in_ok-best.ensures in
    plan_told _ _ _ _ _ _ best.best_answers _ _ best.real c.write_plan.ensures
