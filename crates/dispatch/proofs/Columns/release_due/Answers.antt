-- Before the soonest release comes there is nothing to release.
use Rattle.dispatch.specs.ReleaseLaws.{nothing_released}
use Rattle.dispatch.proofs.Columns.release_due.Goals as goal

pub returns-then-tick-soonest-clause-released : goal.returns-then-tick-soonest-clause-released
returns-then-tick-soonest-clause-released c = nothing_released _ _ _ _ _ c.requires.no_release c.if-tick-soonest.true
