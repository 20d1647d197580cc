-- `lower_all` lowers the entries for one item more by three calls for half of the sets. The measure is the number of sets.
use Rattle.partition.proofs.splits.Split.+lower_all.Given as goal

abbrev pub decreases-lower_all : goal.decreases-lower_all
decreases-lower_all l = l.self.size
