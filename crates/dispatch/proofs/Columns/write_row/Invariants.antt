-- `write_row` has filled the slots before its tick, and what is left is what dispatching has left then.
use Prim.Native.Nat.{◌-◌, ◌≤◌}
use mathlib.Core.Path.{◌≡◌}
use lib.ListN.{length}
use Rattle.dispatch.specs.RowLaws.{RowSoFar}
use Rattle.dispatch.proofs.Columns.write_row.Given as goal

abbrev pub invariant-loop-tick : goal.invariant-loop-tick
invariant-loop-tick l =
    (l.tick ≤ l.end) × (l.soonest ≤ l.end) × (length l.left ≡ length l.initial.left) × (length l.slots ≡ length l.initial.slots)
    × RowSoFar l.self.numbers.now l.self.periods.now l.self.windows.now l.self.ticks.now l.tick l.soonest l.left l.slots

abbrev pub decreases-loop-tick : goal.decreases-loop-tick
decreases-loop-tick l = l.end - l.tick
