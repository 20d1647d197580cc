-- Choice after choice the best so far is the least of those read.
use Rattle.std.proofs.Common.{length}
use Rattle.knapsack_tables.specs.ListReads.{LeastTo}
use Rattle.knapsack_tables.proofs.front.least_listed.Given as goal

abbrev pub invariant-loop-choice : goal.invariant-loop-choice
invariant-loop-choice l = LeastTo l.capacity 0 (length l.list) l.list l.knapsack.costs.now l.knapsack.keys.now l.choice-index l.best
