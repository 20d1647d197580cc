-- All sets are one branch, whose settled part is empty.
use Rattle.knapsack.specs.RelaxedItems.{flat_knapsack}
use Rattle.knapsack_tables.specs.TabledKnapsacks.{all_sets_fit, all_sets_filled}
use Rattle.knapsack_tables.proofs.filling.fill_with_room.Goals as goal

pub fill-requires : goal.fill-requires
fill-requires g c =
    let fit = c.requires.knapsacks_fit in
    let lists = c.list_front-listed.ensures in
    all_sets_fit fit (flat_knapsack 0 0 _ fit.affordable.capacity_limited) lists.upper_bound.0 lists.front_listed

pub returns : goal.returns
returns g c =
    let fit = c.requires.knapsacks_fit in
    let called = c.fill in
    all_sets_filled fit (flat_knapsack 0 0 _ fit.affordable.capacity_limited) called.ensures called.auto.costs called.auto.keys
