use Rattle.lagrangian.specs.PriceColumns.{JobsBy}
use Rattle.lagrangian.proofs.prices.jobs_by.Given as goal

abbrev pub invariant-loop-i : goal.invariant-loop-i
invariant-loop-i l = JobsBy l.tick l.timings l.i l.jobs
