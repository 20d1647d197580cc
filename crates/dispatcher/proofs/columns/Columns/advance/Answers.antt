-- The early end, the releases and the run of one tick come to a call.
use Rattle.dispatcher.specs.AdvanceLaws.{column_is_one, task_has_place, task_has_left, advanced}
use Rattle.dispatcher.specs.Columns.{numbered_tasks}
use Rattle.dispatcher.specs.StateLaws.{FittingState, state_fits_iff}
use Rattle.dispatcher.proofs.columns.Columns.advance.Goals as goal
use Rattle.dispatcher.proofs.columns.Columns.advance.Goals.{Start}

fits : (c : goal.Start) →
    let a = c.args in
    FittingState (numbered_tasks a.self.now.numbers.now a.self.now.periods.now a.self.now.windows.now a.self.now.ticks.now) a.span a.state
fits c = (state_fits_iff _ _ _).0 c.requires

pub slot_of-task-requires : goal.slot_of-task-requires
slot_of-task-requires c =
    let start = c in column_is_one _ _ _ _ start.args.self.now.well_formed _ _ _ (fits (goal.at.slot_of-task-requires c).Start) _ c.release_and_choose-chosen.ensures

pub run_task-requires : goal.run_task-requires
run_task-requires c =
    let its = c.release_and_choose-chosen.ensures in
    let number = c.slot_of-task.ensures in
    record { task_le_most_tasks = task_has_place _ _ _ _ c.args.self.now.well_formed _ _ _ (fits (goal.at.run_task-requires c).Start) _ its _ number; nonzero = task_has_left _ _ _ _ c.args.self.now.well_formed _ _ _ (fits (goal.at.run_task-requires c).Start) _ its _ number }

pub next_tick-requires : goal.next_tick-requires
next_tick-requires c = (fits (goal.at.next_tick-requires c).Start).tick_below

pub returns : goal.returns
returns c =
    advanced _ _ _ _ c.args.self.now.well_formed _ _ _ (fits (goal.at.returns c).Start) _ c.release_and_choose-chosen.ensures _ c.slot_of-task.ensures _ _ c.next_tick.ensures
    c.run_task.ensures
