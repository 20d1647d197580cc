-- Set after set the branch's entries come to hold their knapsacks.
use Rattle.knapsack_tables.specs.ListedBranches.{ReadFirst}
use Rattle.knapsack_tables.proofs.front.store_listed.Given as goal

abbrev pub invariant-loop-k : goal.invariant-loop-k
invariant-loop-k l = ReadFirst l.branch l.offers.load.now l.offers.cost.now l.knapsack.costs.now l.knapsack.keys.now l.initial.costs l.initial.keys l.k l.costs l.keys
