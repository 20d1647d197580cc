-- `charge_idle_once` charges one set after the other.
use mathlib.Core.Path.{◌≡◌}
use lib.ListN.{length}
use Rattle.core_tables.specs.ChargedTables.{ChargedBelow}
use Rattle.core_tables.proofs.charge_idle_once.Given as goal

abbrev pub invariant-loop-x : goal.invariant-loop-x
invariant-loop-x l = (length l.costs ≡ length l.initial.costs) × ChargedBelow l.items l.whole l.x l.initial.costs l.costs
