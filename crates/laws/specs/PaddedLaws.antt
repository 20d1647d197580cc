-- A list in a fixed number of places, and back.
use Prim.Native.Nat.{ℕ, zero, suc, ◌+◌, ◌≤◌, ◌<◌}
use Rattle.std.proofs.Common.{le_of_suc-le-suc, add-one, arith, ◌∙◌, length-append, take-suc-set}
use Rattle.std.specs.Prelude.{◌≡◌, length, take, replicate, set}
use Rattle.std.proofs.Math.Path.{refl, ap}
use mathlib.Core.List.{List, [], ◌∷◌, ◌++◌}
use Rattle.laws.specs.Lists.{padded}

module _ {ℓ} {A : Type ℓ} where
  pub length_padded : (n : ℕ) (blank : A) (xs : List A) → length (padded n blank xs) ≡ n
  unfolding padded
  length_padded zero blank xs = refl
  length_padded (suc n) blank [] = ap suc (length_padded n blank [])
  length_padded (suc n) blank (x ∷ xs) = ap suc (length_padded n blank xs)

  -- what was put in comes out again
  pub take_padded : (n : ℕ) (blank : A) (xs : List A) → length xs ≤ n → take (length xs) (padded n blank xs) ≡ xs
  unfolding padded
  take_padded zero blank [] h = refl
  take_padded zero blank (x ∷ xs) h = absurd (omega arith)
  take_padded (suc n) blank [] h = refl
  take_padded (suc n) blank (x ∷ xs) h = ap (λ (l : List A). x ∷ l) (take_padded n blank xs (le_of_suc-le-suc h))

-- an array of n places that is filled from the front: its first i hold what was put there, and the others are blank
pub record Filled {A : Type 0} (n : ℕ) (blank : A) (array : List A) (i : ℕ) : Type 0 where
  pub count : length (take i array) ≡ i
  pub is_padded : array ≡ padded n blank (take i array)

replicate_is_padded : {A : Type 0} (n : ℕ) (blank : A) → replicate n blank ≡ padded n blank []
unfolding padded
replicate_is_padded zero blank = refl
replicate_is_padded {A} (suc n) blank = ap (λ (array : List A). blank ∷ array) (replicate_is_padded n blank)

set_padded : {A : Type 0} (n : ℕ) (blank : A) (xs : List A) (x : A) → length xs < n →
    set (padded n blank xs) (length xs) x ≡ padded n blank (xs ++ (x ∷ []))
unfolding padded
set_padded zero blank xs x short = absurd (omega arith)
set_padded (suc n) blank [] x short = refl
set_padded {A} (suc n) blank (y ∷ xs) x short = ap (λ (array : List A). y ∷ array) (set_padded n blank xs x (le_of_suc-le-suc short))

module _ {A : Type 0} (n : ℕ) (blank : A) where
  pub filled_none : Filled n blank (replicate n blank) 0
  filled_none = record { count = refl; is_padded = replicate_is_padded n blank }

  module _ (array : List A) (i : ℕ) (x : A) (room : i < n) (filled : Filled n blank array i) where
    length_filled : length array ≡ n
    length_filled = ap length filled.is_padded ∙ length_padded n blank (take i array)

    pub front_more : take (i + 1) (set array i x) ≡ take i array ++ (x ∷ [])
    front_more = rw (add-one i) (take-suc-set array i x (omega (arith, length_filled)))

    pub filled_more : Filled n blank (set array i x) (i + 1)
    filled_more =
        let put = rw filled.count at (set_padded n blank (take i array) x (omega (arith, filled.count))) in
        record {
          count = rw (front_more, length-append) (omega (arith, filled.count));
          is_padded = rw front_more (ap (λ (l : List A). set l i x) filled.is_padded ∙ put);
        }
