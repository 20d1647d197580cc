use mathlib.Core.Path.{sym, refl}
use native.Mathlib.Nat.{zero-mod}
use native.Mathlib.Numerals.{sub-one}
use Rattle.plan_rules.proofs.quantities.level_of.Goals as goal

pub returns-then-choice-eq0 : goal.returns-then-choice-eq0
returns-then-choice-eq0 c = rw c.if-choice-eq0.true (sym (zero-mod _))

pub returns : goal.returns
returns c = rw sub-one refl
