-- `unmet_up_to` has the demand met by every tick above the one that it stands at.
use Prim.Native.Nat.{◌≤◌}
use Rattle.dispatch.specs.Columns.{column_tasks}
use Rattle.demand.specs.UnmetTicks.{MetAbove}
use Rattle.demand.proofs.Jobs.unmet_up_to.Given as goal

abbrev pub invariant-loop-tick : goal.invariant-loop-tick
invariant-loop-tick l = (l.tick ≤ l.end) × MetAbove (column_tasks l.self.periods.now l.self.windows.now l.self.ticks.now) l.tick l.end

abbrev pub decreases-loop-tick : goal.decreases-loop-tick
decreases-loop-tick l = l.tick
