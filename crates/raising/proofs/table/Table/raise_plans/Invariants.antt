-- `raise_plans` takes up one plan after the other.
use Prim.Native.Nat.{◌≤◌}
use Rattle.raising.specs.Tables.{PlansRaised}
use Rattle.raising.proofs.table.Table.raise_plans.Given as goal

abbrev pub invariant-loop-key : goal.invariant-loop-key
invariant-loop-key l = (l.plans ≤ 8) × PlansRaised l.offer l.initial.self l.self
