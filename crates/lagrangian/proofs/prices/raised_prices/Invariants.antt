use Rattle.lagrangian.specs.PriceColumns.{Raised}
use Rattle.lagrangian.proofs.prices.raised_prices.Given as goal

abbrev pub invariant-loop-i : goal.invariant-loop-i
invariant-loop-i l = Raised l.weight l.jobs l.prices l.i l.raised
