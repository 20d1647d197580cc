-- The greatest common divisor: Euclid's step keeps it, and by it the least common multiple is found.
use Rattle.std.specs.Prelude.{ℕ, ◌*◌, ◌/◌, ◌%◌, ◌≤◌, ◌<◌, ◌≡◌}
use Rattle.std.specs.Int.{◌∣◌}
use Rattle.std.proofs.Common.{sym, ap, ◌∙◌, le_antisymm, le_of_mul-le-mul_right, mul_assoc, mul_comm, mul_right_comm, mul-le-mul_right, mul-pos}
use Rattle.std.proofs.Math.Nat.{dvd_refl, dvd-zero, dvd-mul_left, dvd-mul_right, dvd-mod_iff, div-mul_cancel, eq_of_mul-eq-mul_right, le_of_dvd, pos_of_dvd_of_pos}
use Rattle.laws.specs.Multiples.{lcm}
use Rattle.laws.specs.MultiplesLaws.{left_divides_lcm, right_divides_lcm, lcm_divides_common_multiple}

pub record IsGcd (a b g : ℕ) : Type 0 where
  pub left : g ∣ a
  pub right : g ∣ b
  pub greatest : (d : ℕ) → d ∣ a → d ∣ b → d ∣ g

pub gcd_of_zero : (a : ℕ) → IsGcd a 0 a
gcd_of_zero a = record { left = dvd_refl a; right = dvd-zero a; greatest = λ d divides zero. divides }

pub euclid_step : (a b : ℕ) {g : ℕ} → IsGcd b (a % b) g → IsGcd a b g
euclid_step a b {g} h =
    record {
      left = (dvd-mod_iff g h.left).0 h.right;
      right = h.left;
      greatest = λ d of_a of_b. h.greatest d of_b ((dvd-mod_iff d of_b).1 of_a);
    }

module _ (a b g : ℕ) (a_above : 0 < a) (b_above : 0 < b) (h : IsGcd a b g) where
  abbrev L : ℕ
  L = lcm a b

  -- what is left of a · b beside the least common multiple divides both
  abbrev d : ℕ
  d = a * b / L

  d_times_lcm : d * L ≡ a * b
  d_times_lcm = div-mul_cancel L (lcm_divides_common_multiple a b a_above b_above (dvd-mul_right a b) (dvd-mul_left b a))

  quotient_divides : (x y : ℕ) → 0 < y → y ∣ L → d * L ≡ x * y → d ∣ x
  quotient_divides x y y_above y_divides product =
      let is : d * (L / y) ≡ x =
      eq_of_mul-eq-mul_right y y_above _ _ (mul_assoc d (L / y) y ∙ ap (λ (k : ℕ). d * k) (div-mul_cancel y y_divides) ∙ product) in
      rw is at (dvd-mul_right d (L / y))

  d_divides_gcd : d ∣ g
  d_divides_gcd =
      h.greatest d
      (quotient_divides a b b_above (right_divides_lcm a b) d_times_lcm)
      (quotient_divides b a a_above (left_divides_lcm a b a_above) (d_times_lcm ∙ mul_comm a b))

  product_times_gcd : a / g * b * g ≡ a * b
  product_times_gcd = mul_right_comm (a / g) b g ∙ ap (λ (k : ℕ). k * b) (div-mul_cancel g h.left)

  gcd_above : 0 < g
  gcd_above = pos_of_dvd_of_pos h.left a_above

  left_divides_product : a ∣ a / g * b
  left_divides_product =
      let is : a * (b / g) ≡ a / g * b =
      eq_of_mul-eq-mul_right g gcd_above _ _
      (mul_assoc a (b / g) g ∙ ap (λ (k : ℕ). a * k) (div-mul_cancel g h.right) ∙ sym product_times_gcd) in
      rw is at (dvd-mul_right a (b / g))

  product_above : 0 < a / g * b
  product_above = pos_of_dvd_of_pos (dvd-mul_right (a / g * b) g) (rw product_times_gcd (mul-pos a_above b_above))

  pub lcm_by_gcd : a / g * b ≡ lcm a b
  lcm_by_gcd =
      let at_most : a / g * b * g ≤ L * g =
      rw (product_times_gcd, ← d_times_lcm, mul_comm L g) (mul-le-mul_right L (le_of_dvd gcd_above d_divides_gcd)) in
      le_antisymm
      (le_of_mul-le-mul_right at_most gcd_above)
      (le_of_dvd product_above (lcm_divides_common_multiple a b a_above b_above left_divides_product (dvd-mul_left b (a / g))))
