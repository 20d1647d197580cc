-- What the value of a compound test says of its parts.
use Rattle.std.specs.Prelude.{ℕ, Bool, true, false, ◌&&◌, ◌||◌, ◌↔◌, ◌≡◌, refl}
use Rattle.std.proofs.Common.{arith}

pub false_not_true : {b : Bool} → b ≡ false → b ≡ true → ⊥
false_not_true f t = let z : ◌≡◌ {A = ℕ} 0 1 = cc in omega arith

pub not_true_is_false : (a : Bool) → (a ≡ true → ⊥) → a ≡ false
not_true_is_false true n = absurd (n refl)
not_true_is_false false n = refl

pub and_is_true : (a b : Bool) → (a && b ≡ true) ↔ ((a ≡ true) × (b ≡ true))
and_is_true true b = (λ e. (refl, e), λ both. both.1)
and_is_true false b = (λ e. absurd (false_not_true refl e), λ both. both.0)

pub or_is_true : (a b : Bool) → (a || b ≡ true) ↔ (a ≡ false → b ≡ true)
or_is_true true b = (λ e f. absurd (false_not_true f e), λ next. refl)
or_is_true false b = (λ e f. e, λ next. next refl)

pub or_is_false : (a b : Bool) → (a || b ≡ false) ↔ ((a ≡ false) × (b ≡ false))
or_is_false true b = (λ e. absurd (false_not_true e refl), λ both. both.0)
or_is_false false b = (λ e. (refl, e), λ both. both.1)
