-- `demand_at` adds up what is due, task by task.
use mathlib.Core.Path.{◌≡◌}
use Rattle.laws.specs.Sums.{sum}
use Rattle.dispatch.specs.Columns.{column_tasks}
use Rattle.edf.specs.Demand.{ticks_due}
use Rattle.demand.proofs.Jobs.demand_at.Given as goal

abbrev pub invariant-loop-i : goal.invariant-loop-i
invariant-loop-i l =
    l.due ≡ sum (ticks_due (column_tasks l.self.periods.now l.self.windows.now l.self.ticks.now) l.tick) l.i
