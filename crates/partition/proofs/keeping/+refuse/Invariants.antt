-- `refuse` refuses the later items in both halves of the sets, and then item i, where it may be refused. The measure is the number of sets.
use Rattle.partition.proofs.keeping.+refuse.Given as goal

abbrev pub decreases-refuse : goal.decreases-refuse
decreases-refuse l = l.size
