-- Who runs has a place and ticks left, as it is the choice among the tasks.
use Rattle.dispatch.specs.Earliest.{earliest_has_ticks}
use Rattle.dispatch.proofs.Columns.run_earliest.Goals as goal

pub run_end-end-requires-clause-has_ticks : goal.run_end-end-requires-clause-has_ticks
run_end-end-requires-clause-has_ticks c = earliest_has_ticks _ _ _ _ c.requires.periods_in_bounds c.earliest-task.ensures
