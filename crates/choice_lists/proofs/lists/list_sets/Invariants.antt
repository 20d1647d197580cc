-- `list_sets` goes from set to set.
use Rattle.choice_lists.specs.ListedSets.{SetsGoing}
use Rattle.choice_lists.proofs.lists.list_sets.Given as goal

abbrev pub invariant-loop-k : goal.invariant-loop-k
invariant-loop-k l = SetsGoing l.front l.count l.offers.load.now l.offers.cost.now l.k l.points l.starts
