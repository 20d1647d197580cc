use mathlib.Core.Path.{refl}
use native.Mathlib.Omega.{arith}
use Rattle.sleep.specs.RowWalkLaws.{gap_slept_through, cheap_gap_spent_awake, short_gap_spent_awake}
use Rattle.sleep.proofs.rows.gap_slept.Goals as goal

pub returns-then-costs-awake : goal.returns-then-costs-awake
returns-then-costs-awake c = gap_slept_through _ _ _ refl (omega arith) (omega arith)

pub returns-else-costs-awake : goal.returns-else-costs-awake
returns-else-costs-awake c = cheap_gap_spent_awake _ _ _ refl (omega arith) (omega arith)

pub returns-else-costs-gap : goal.returns-else-costs-gap
returns-else-costs-gap c = short_gap_spent_awake _ _ _ refl (omega arith)
