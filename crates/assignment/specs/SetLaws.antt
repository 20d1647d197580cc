-- Sets of n items and the numbers below 2^n stand for each other.
use Rattle.std.specs.Prelude.{ℕ, zero, suc, ◌-◌, ◌^◌, ◌≤◌, ◌<◌, ◌≡◌, refl, ◌⊎◌, Bool, true, false, List, [], ◌∷◌, length}
use Rattle.std.proofs.Common.{ap, inl, inr, pow-suc, arith}
use Rattle.std.proofs.Math.Nat.{pow-zero}
use Rattle.laws.specs.Below.{lt_or_le}
use Rattle.assignment.specs.Sets.{set_number}

pub set_number-below : (n : ℕ) (S : List Bool) → set_number n S < 2 ^ n
unfolding set_number
set_number-below zero S = rw pow-zero (omega arith)
set_number-below (suc n) [] = omega (arith, pow-suc 2 n, set_number-below n [])
set_number-below (suc n) (true ∷ S) = omega (arith, pow-suc 2 n, set_number-below n S)
set_number-below (suc n) (false ∷ S) = omega (arith, pow-suc 2 n, set_number-below n S)

-- the set that a number stands for
pub record Numbered (n x : ℕ) : Type 0 where
  pub set : List Bool
  pub of_items : length set ≡ n
  pub number : set_number n set ≡ x

pub numbered : (n x : ℕ) → x < 2 ^ n → Numbered n x
unfolding set_number
numbered zero x h = record { set = []; of_items = refl; number = omega (arith, pow-zero 2) }
numbered (suc n) x h = go (lt_or_le x (2 ^ n)) (numbered n)
  where
    go : (x < 2 ^ n) ⊎ (2 ^ n ≤ x) → ((y : ℕ) → y < 2 ^ n → Numbered n y) → Numbered (suc n) x
    go (inl low) ih =
        let s = ih x low in
        record { set = false ∷ s.set; of_items = ap suc s.of_items; number = omega (arith, s.number) }
    go (inr high) ih =
        let s = ih (x - 2 ^ n) (omega (arith, pow-suc 2 n)) in
        record { set = true ∷ s.set; of_items = ap suc s.of_items; number = omega (arith, s.number) }
