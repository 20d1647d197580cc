-- `lift_by_samples` lifts all entries by one relaxation after the other.
use Prim.Native.Nat.{◌<◌}
use Rattle.raising.specs.Tables.{TableRaised}
use Rattle.raising.proofs.table.Table.lift_by_samples.Given as goal

abbrev pub invariant-loop-set : goal.invariant-loop-set
invariant-loop-set l = (0 < l.steps) × TableRaised l.offer l.self
