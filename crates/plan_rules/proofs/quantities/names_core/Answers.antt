use mathlib.Core.Path.{refl, ap}
use borrow.Author.Tests.{eq-eqb, ne_eqb}
use lib.Dec.{eqb}
use Prim.Native.Nat.{ℕ}
use Rattle.plan_rules.proofs.quantities.names_core.Goals as goal

pub returns-then-choice-eq0 : goal.returns-then-choice-eq0
returns-then-choice-eq0 c = rw (eq-eqb _ _ c.if-choice-eq0.true) refl

pub returns : goal.returns
returns c =
    rw (ne_eqb _ _ c.if-choice-eq0.false) (ap (λ (n : ℕ). eqb n c.args.k) c.core_of.ensures)
