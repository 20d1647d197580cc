-- `is_exceeded` holds what is due against the tick.
use Prim.Native.Nat.{◌*◌}
use mathlib.Core.Path.{refl}
use native.Mathlib.Omega.{arith}
use borrow.Author.Tests.{ltb-true}
use Rattle.laws.specs.Truth.{false_not_true}
use Rattle.timed_parts.specs.DemandRows.{row_width}
use Rattle.timed_parts.proofs.demand_rows.is_exceeded.Goals as goal

pub returns-then-tick-eq0 : goal.returns-then-tick-eq0
returns-then-tick-eq0 c = λ yes. absurd (false_not_true refl yes)

pub overflow_cast-result : goal.overflow_cast-result
overflow_cast-result c = omega (arith, c.type_inv.rows (c.args.row * row_width))

pub returns : goal.returns
returns c = λ yes. rw (← c.due_by.ensures) (ltb-true _ _ yes)
