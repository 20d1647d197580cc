use Rattle.lagrangian.specs.PricedLevels.{Cheapest}
use Rattle.lagrangian.proofs.cores.TimedCore.cheapest_level.Given as goal

abbrev pub invariant-loop-level : goal.invariant-loop-level
invariant-loop-level l = Cheapest l.item l.price l.self.timings.now l.self.cost.now l.level l.best
