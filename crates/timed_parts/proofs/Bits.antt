-- Ticks times a bit: none, or these.
use Rattle.std.proofs.Common.{ℕ, zero, suc, ◌*◌, ◌≡◌, ◌<◌, ◌≤◌, arith}

pub times_no_bit : (b t : ℕ) → b ≡ 0 → b * t ≡ 0
times_no_bit b t none = rw none (omega arith)

pub times_bit : (b t : ℕ) → b < 2 → 0 < b → b * t ≡ t
times_bit b t below some = let one : b ≡ 1 = omega arith in rw one (omega arith)

pub times_bit_at_most : (b t : ℕ) → b < 2 → b * t ≤ t
times_bit_at_most zero t below = omega arith
times_bit_at_most (suc zero) t below = omega arith
times_bit_at_most (suc (suc b)) t below = absurd (omega arith)
