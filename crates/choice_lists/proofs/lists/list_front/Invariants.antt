-- `list_front` takes one item less until the lists fit.
use Rattle.choice_lists.specs.ListedFront.{ListsFit}
use Rattle.choice_lists.proofs.lists.list_front.Given as goal

abbrev pub invariant-loop-offers : goal.invariant-loop-offers
invariant-loop-offers l = ListsFit l.core l.n l.items l.offers.load.now l.offers.cost.now l.points l.starts

abbrev pub decreases-loop-offers : goal.decreases-loop-offers
decreases-loop-offers l = l.n
