-- Numbers below a bound, and those that are not.
use Rattle.std.specs.Prelude.{ℕ, suc, ◌≤◌, ◌<◌, ◌⊎◌}
use Rattle.std.proofs.Common.{sym, subst, inl, inr, ⊎_elim, le_of_suc-le-suc, eq-or-lt_of_le, lt_of_not-le}
use Rattle.std.proofs.Math.Decide.{dec_lt}

pub lt_or_le : (a b : ℕ) → (a < b) ⊎ (b ≤ a)
lt_or_le a b = go (dec_lt a b)
  where
    go : Dec (a < b) → (a < b) ⊎ (b ≤ a)
    go (yes l) = inl l
    go (no n) = inr (le_of_suc-le-suc (lt_of_not-le n))

-- what holds below n and at n holds below suc n
pub below_suc {ℓ} : (P : ℕ → Type ℓ) (n : ℕ) → ((i : ℕ) → i < n → P i) → P n → (i : ℕ) → i < suc n → P i
below_suc P n below at i l = ⊎_elim (λ e. subst P (sym e) at) (below i) (eq-or-lt_of_le (le_of_suc-le-suc l))
