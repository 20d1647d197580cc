-- Level after level the knapsack becomes that of the item before the other knapsack.
use mathlib.Core.Path.{◌≡◌}
use lib.ListN.{length}
use Rattle.knapsack.specs.RelaxedItems.{KnapsackWithItem}
use Rattle.knapsack.proofs.relaxing.Front.relax.Given as goal

abbrev pub invariant-loop-l : goal.invariant-loop-l
invariant-loop-l l =
    (length l.costs ≡ length l.initial.costs) × (length l.keys ≡ length l.initial.keys)
    × KnapsackWithItem l.self l.load l.cost l.knapsack_costs l.knapsack_keys l.l l.costs l.keys
