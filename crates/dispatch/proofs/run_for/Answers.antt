use Rattle.dispatch.specs.RowLaws.{none_ran, one_ran}
use Rattle.dispatch.proofs.run_for.Goals as goal

pub returns-in-Some : goal.returns-in-Some
returns-in-Some c = let within = rw c.in-Some.is at c.requires in rw c.in-Some.is (one_ran _ _ _ within.0)

pub returns-in_default : goal.returns-in_default
returns-in_default c = rw c.in_default.is (none_ran _ _)
