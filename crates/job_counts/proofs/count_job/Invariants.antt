-- `count_job` has counted the slots that it has passed.
use Rattle.job_counts.proofs.JobCountSteps.{CountedUpTo}
use Rattle.job_counts.proofs.count_job.Given as goal

abbrev pub invariant-loop-x : goal.invariant-loop-x
invariant-loop-x l = CountedUpTo l.slots l.number l.window l.ticks l.left l.x
