use native.Mathlib.Nat.{zero-div}
use native.Mathlib.Numerals.{sub-one}
use mathlib.Core.Path.{sym, refl}
use Rattle.plan_rules.proofs.quantities.core_of.Goals as goal

pub returns-then-choice-eq0 : goal.returns-then-choice-eq0
returns-then-choice-eq0 c = rw c.if-choice-eq0.true (sym (zero-div _))

pub returns : goal.returns
returns c = rw sub-one refl
