use mathlib.Core.Path.{sym}
use native.Mathlib.Nat.{div-zero}
use Rattle.plan_rules.proofs.quantities.jobs_in.Goals as goal

pub returns-then-period-eq0 : goal.returns-then-period-eq0
returns-then-period-eq0 c = rw c.if-period-eq0.true (sym (div-zero _))
