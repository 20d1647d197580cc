-- `fill_table` has written the rows of the cores that it has passed to the front, and nothing else.
use Prim.Native.Nat.{◌-◌, ◌≤◌}
use mathlib.Core.Path.{◌≡◌}
use Rattle.instance.specs.Held.{problem_in}
use Rattle.tables.specs.HeldTables.{rows_onto}
use Rattle.tables.proofs.table.fill_table.Given as goal

abbrev pub invariant-loop-k : goal.invariant-loop-k
invariant-loop-k l = (l.k ≤ l.cores) × (l.table ≡ rows_onto (problem_in l.inst) l.plan l.k l.initial.table)
