use Rattle.lagrangian.specs.Lagrangians.{WithinBudget}
use Rattle.lagrangian.proofs.cores.TimedCore.prices_of.Given as goal

abbrev pub invariant-loop-tick : goal.invariant-loop-tick
invariant-loop-tick l = WithinBudget l.self.timed l.self.timings.now l.known.prices l.known.budget
