-- `lifted` has each answer of its own.
use mathlib.Core.Logic.{inl, inr}
use mathlib.Core.Path.{refl}
use native.Mathlib.Omega.{arith}
use Rattle.set_tables.specs.LiftedTables.{stays, lifted}
use Rattle.set_tables.proofs.lifting.lifted.Goals as goal

pub returns-then-sum-old : goal.returns-then-sum-old
returns-then-sum-old c = stays (inl (omega arith)) refl refl

pub returns-then-sum-budget-gt-MOST_CORE_COST : goal.returns-then-sum-budget-gt-MOST_CORE_COST
returns-then-sum-budget-gt-MOST_CORE_COST c = stays (inr (omega arith)) refl refl

pub returns : goal.returns
returns c = lifted (omega arith) (omega arith) (omega arith) refl
