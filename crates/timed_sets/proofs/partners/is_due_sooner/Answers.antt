use borrow.Author.Tests.{ltb-true, ltb-false}
use Rattle.lagrangian.specs.TimedCores.{timing_at}
use Rattle.timed_sets.proofs.partners.is_due_sooner.Goals as goal

pub returns : goal.returns
unfolding timing_at
returns c = record { j_bound = λ is. ltb-true _ _ is; i_bound = λ is. ltb-false _ _ is }
