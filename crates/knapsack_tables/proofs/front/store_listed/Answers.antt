use Rattle.std.proofs.Common.{add-one, arith}
use Rattle.knapsack_tables.specs.ListedBranches.{ahead_knapsack, place_below, list_read, one_more_read}
use Rattle.knapsack_tables.proofs.front.store_listed.Goals as goal

pub least_listed-worth-requires : goal.least_listed-worth-requires
least_listed-worth-requires c =
    let a = c.args in
    rw add-one (
      a.branch.ahead,
      a.branch.places,
      ahead_knapsack a.branch a.offers.load.now a.offers.cost.now c.loop-k.k,
      list_read c.requires.branch_fits (omega (arith, c.sets_of-k-end.ensures)) c.requires.ahead_value,
    )

pub store-requires : goal.store-requires
store-requires c =
    let fits = c.requires.branch_fits in
    let at = c.loop-k in
    let place = place_below fits {k = at.k} (omega (arith, c.sets_of-k-end.ensures)) in
    (omega (arith, place, fits.costs_for_all, at.auto.costs), omega (arith, place, fits.keys_for_all, at.auto.keys))

pub loop-k-preserved : goal.loop-k-preserved
loop-k-preserved c =
    let at = c.loop-k in
    let stored = c.store.ensures in
    rw (add-one, stored.costs_after, stored.keys_after)
    (one_more_read c.requires.branch_fits (omega (arith, c.loop-k-test.true, c.sets_of-k-end.ensures)) c.requires.ahead_value at.auto.costs at.auto.keys at.invariant
    (rw add-one at c.least_listed-worth.ensures))
