-- `lcm` is the least common multiple: above 0, a multiple of both, and a divisor of every common multiple.
use Rattle.std.specs.Prelude.{ℕ, zero, suc, ◌-◌, ◌*◌, ◌/◌, ◌%◌, ◌<◌, ◌≡◌, Bool, true}
use Rattle.std.specs.Int.{◌∣◌}
use Rattle.std.proofs.Common.{sym, ◌∙◌, true≢false, ⊎_elim, mod-lt, lt_of_mul-lt-mul_right, le_of_suc-le-suc, eq-or-lt_of_le, arith, eqb-true, eq-eqb}
use Rattle.std.proofs.Math.Nat.{dvd-mul_left, dvd-mul_right, dvd_of_mod-eq-zero, mod-eq-zero_of_dvd, dvd-mod_iff, div-mul_cancel}
use Rattle.laws.specs.FirstLaws.{IsFirst, first_is_first}
use Rattle.laws.specs.Multiples.{divides, lcm}
use Rattle.laws.specs.Search.{first}

pub divides_true : (d n : ℕ) → divides d n ≡ true → d ∣ n
divides_true d n e = dvd_of_mod-eq-zero d (eqb-true (n % d) 0 e)

pub dvd_divides : (d n : ℕ) → d ∣ n → divides d n ≡ true
dvd_divides d n h = eq-eqb (n % d) 0 (mod-eq-zero_of_dvd d h)

pub right_divides_lcm : (a b : ℕ) → b ∣ lcm a b
unfolding lcm
right_divides_lcm a b = dvd-mul_left b _

pub lcm_above_zero : (a b : ℕ) → 0 < b → 0 < lcm a b
unfolding lcm
lcm_above_zero a b b_above = omega arith

-- `lcm a b` tries suc k times b for k from 0
abbrev tried : ℕ → ℕ → ℕ → Bool
tried a b k = divides a (suc k * b)

pub left_divides_lcm : (a b : ℕ) → 0 < a → a ∣ lcm a b
unfolding lcm
left_divides_lcm a b a_above = go (first (tried a b) (a - 1)) (first_is_first (tried a b) (a - 1))
  where
    go : (k : ℕ) → IsFirst (tried a b) (a - 1) k → a ∣ suc k * b
    go k h =
        ⊎_elim
        (λ last. let suc_k_is_a : suc k ≡ a = omega arith in rw suc_k_is_a (dvd-mul_right a b))
        (λ below. divides_true a (suc k * b) (h.passes_below below))
        (eq-or-lt_of_le h.at_most)

only_zero_below_lcm : (a b r : ℕ) → r < lcm a b → a ∣ r → b ∣ r → r ≡ 0
unfolding lcm
only_zero_below_lcm a b r below a_divides b_divides = go (r / b) (div-mul_cancel b b_divides)
  where
    go : (c : ℕ) → c * b ≡ r → r ≡ 0
    go zero e = omega arith
    go (suc j) e =
        absurd
        (true≢false
        (sym (dvd_divides a (suc j * b) (rw e a_divides))
        ∙ (first_is_first (tried a b) (a - 1)).none_below j (le_of_suc-le-suc (lt_of_mul-lt-mul_right b (rw e below)))))

module _ (a b : ℕ) (a_above : 0 < a) (b_above : 0 < b) where
  pub lcm_divides_common_multiple : {m : ℕ} → a ∣ m → b ∣ m → lcm a b ∣ m
  lcm_divides_common_multiple {m} a_divides b_divides =
      dvd_of_mod-eq-zero
      (lcm a b)
      (only_zero_below_lcm
      a
      b
      (m % lcm a b)
      (mod-lt m (lcm_above_zero a b b_above))
      ((dvd-mod_iff a (left_divides_lcm a b a_above)).1 a_divides)
      ((dvd-mod_iff b (right_divides_lcm a b)).1 b_divides))
