-- Entries below `w` are relaxed, the others as they were.
use Rattle.knapsack.specs.RelaxedKnapsacks.{RelaxedBelow}
use Rattle.knapsack.proofs.relaxing.Choice.relax.Given as goal

abbrev pub invariant-loop-w : goal.invariant-loop-w
invariant-loop-w l =
    RelaxedBelow l.self.load l.self.cost l.self.key l.knapsack_costs l.knapsack_keys l.initial.costs l.initial.keys l.capacity l.w l.costs l.keys
