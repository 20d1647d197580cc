-- `release_and_choose` has ended and released the jobs of the columns that it has passed, and picked among their tasks.
use Rattle.dispatch.specs.Columns.{due_in}
use Rattle.dispatch.specs.EarliestSoFar.{Picked}
use Rattle.dispatcher.specs.Places.{Placed}
use Rattle.dispatcher.specs.Ticks.{ready_in}
use Rattle.dispatcher.proofs.columns.Columns.release_and_choose.Given as goal

abbrev pub invariant-loop-j : goal.invariant-loop-j
invariant-loop-j l =
    Placed l.self.numbers.now (ready_in l.self.numbers.now l.self.periods.now l.self.ticks.now l.state l.ended) l.state.left l.after l.j
    × Picked (due_in l.self.periods.now l.self.windows.now l.state.tick) (ready_in l.self.numbers.now l.self.periods.now l.self.ticks.now l.state l.ended) l.j l.best
