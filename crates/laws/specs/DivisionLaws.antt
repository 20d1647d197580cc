-- Laws of division that the kit does not have.
use Rattle.std.specs.Prelude.{ℕ, zero, suc, ◌*◌, ◌/◌, ◌%◌, ◌≤◌, ◌<◌, ◌≡◌}
use Rattle.std.proofs.Common.{ap, sym, div-add-mod', div-mul-le_self, mod-lt, le-div_iff_mul-le, le_trans, pos_of_ne-zero, arith}
use Rattle.std.proofs.Math.Nat.{div-eq_of_lt-le}

pub div_mono : (m n p : ℕ) → 0 < p → m ≤ n → m / p ≤ n / p
div_mono m n p above l = (le-div_iff_mul-le above).1 (le_trans (div-mul-le_self m p) l)

-- a step to a multiple of p
pub suc_div_of_multiple : (t p : ℕ) → 0 < p → suc t % p ≡ 0 → suc t / p ≡ suc (t / p)
suc_div_of_multiple t p above e = go (suc t / p) (omega (arith, div-add-mod' (suc t) p))
  where
    go : (q : ℕ) → q * p ≡ suc t → q ≡ suc (t / p)
    go zero whole = absurd (omega arith)
    go (suc q) whole = ap suc (sym (div-eq_of_lt-le p (omega arith) (omega arith)))

-- a step to another number
pub suc_div_of_other : (t p : ℕ) → 0 < p → (suc t % p ≡ 0 → ⊥) → suc t / p ≡ t / p
suc_div_of_other t p above n =
    sym (div-eq_of_lt-le p (omega (arith, div-add-mod' (suc t) p, pos_of_ne-zero n)) (omega (arith, div-add-mod' (suc t) p, mod-lt (suc t) above)))
