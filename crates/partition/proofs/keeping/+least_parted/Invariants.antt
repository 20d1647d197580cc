-- `least_parted` takes the least sum of two halves of the ways. The measure is the number of ways.
use Rattle.partition.proofs.keeping.+least_parted.Given as goal

abbrev pub decreases-least_parted : goal.decreases-least_parted
decreases-least_parted l = l.size
