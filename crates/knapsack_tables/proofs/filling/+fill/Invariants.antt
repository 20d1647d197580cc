-- The recursion ends with the items ahead. What the two branches below fill in is what their branch fills in.
use Rattle.knapsack_tables.proofs.filling.+fill.Given as goal

abbrev pub decreases-fill : goal.decreases-fill
decreases-fill l = l.branch.ahead
