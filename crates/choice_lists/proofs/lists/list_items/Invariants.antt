-- `list_items` goes from the last item to the first.
use Rattle.choice_lists.specs.ListedFront.{LastListed}
use Rattle.choice_lists.proofs.lists.list_items.Given as goal

abbrev pub invariant-loop-c : goal.invariant-loop-c
invariant-loop-c l = LastListed l.core l.n l.items l.offers.load.now l.offers.cost.now l.c l.points l.starts
