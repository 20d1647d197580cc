use Rattle.lagrangian.specs.PricedLevels.{LeastOfEach}
use Rattle.lagrangian.proofs.cores.TimedCore.lagrangian_of.Given as goal

abbrev pub invariant-loop-i : goal.invariant-loop-i
invariant-loop-i l =
    LeastOfEach l.self.timed.levels l.self.timings.now l.self.cost.now l.known.prices l.i l.least
