use Prim.Native.Nat.{ℕ, ◌*◌, ◌≤◌}
use native.Mathlib.Nat.{mul-le-mul}
use native.Mathlib.Omega.{arith}
use Rattle.ranges.specs.Limits.{most_span, may_not_be_refused}
use Rattle.offers.proofs.options.refusal_of.Goals as goal

penalty_at_most : {missed penalty : ℕ} → missed ≤ most_span → penalty ≤ may_not_be_refused → missed * penalty ≤ most_span * may_not_be_refused
penalty_at_most few within = mul-le-mul few within

pub overflow_mul-result : goal.overflow_mul-result
overflow_mul-result c = omega (arith, penalty_at_most {penalty = c.args.penalty} c.requires.1 (omega arith))

pub overflow_mul-result-2 : goal.overflow_mul-result-2
overflow_mul-result-2 c = omega (arith, mul-le-mul c.requires.0 (penalty_at_most {penalty = c.args.penalty} c.requires.1 (omega arith)))
