use Rattle.std.proofs.Common.{arith}
use Rattle.knapsack_tables.specs.BranchLaws.{next_fits, without_fits, with_fits, both_filled}
use Rattle.knapsack.specs.RelaxedItems.{flat_knapsack}
use Rattle.knapsack_tables.proofs.filling.+fill.Goals as goal

pub settle_next-requires : goal.settle_next-requires
settle_next-requires t c = next_fits c.requires c.if-branch.false

pub fill-requires : goal.fill-requires
fill-requires t c =
    rw c.settle_next.ensures.without (omega (arith, c.decreases, c.requires.listed_ahead, c.if-branch.false), without_fits c.requires c.if-branch.false)

pub relax-requires-clause-flat_knapsack : goal.relax-requires-clause-flat_knapsack
relax-requires-clause-flat_knapsack t c =
    flat_knapsack _ _ _ (rw c.settle_next.ensures.item c.requires.affordable.capacity_limited)

pub fill-requires-2 : goal.fill-requires-2
fill-requires-2 t c =
    let made = c.relax in
    rw c.settle_next.ensures.with (
      omega (arith, c.decreases, c.requires.listed_ahead, c.if-branch.false),
      with_fits c.requires c.if-branch.false made.auto.costs made.auto.keys (rw c.settle_next.ensures.item at made.ensures) c.fill.auto.costs
          c.fill.auto.keys,
    )

pub returns : goal.returns
returns t c =
    both_filled c.requires c.if-branch.false (rw c.settle_next.ensures.without at c.fill.ensures) (rw c.settle_next.ensures.item at c.relax.ensures)
    (rw c.settle_next.ensures.with at c.fill-2.ensures)
