-- Lists taken from the front, and buffers written from the front.
use Rattle.std.specs.Prelude.{ℕ, zero, suc, ◌<◌, min, List, [], ◌∷◌, ◌≡◌, length, take, drop, set}
use Rattle.std.proofs.Common.{ap, le_of_suc-le-suc, not-suc-le-zero, add-one, arith, length-take, length-drop, take-append-drop, drop-drop}
use Rattle.std.proofs.Math.Seq.{take-append_seam}
use Rattle.laws.specs.Lists.{onto}

-- a list whose element at k is x, with `rest` after it
module _ {ℓ} {A : Type ℓ} (xs rest : List A) (k : ℕ) (x : A) (here : drop k xs ≡ x ∷ rest) where
  pub rest_after : drop (suc k) xs ≡ rest
  rest_after = cc (drop-drop 1 k xs, ap (drop 1) here, add-one k)

  pub below_length : k < length xs
  below_length = omega (arith, rw length-drop at (ap length here))

pub take_min {ℓ} : {A : Type ℓ} (n : ℕ) (xs : List A) → take (min n (length xs)) xs ≡ take n xs
take_min n xs = rw (take-append-drop n xs, length-take) at (take-append_seam (take n xs) (drop n xs))

-- what is written next goes to the buffer's next place
pub onto_one_more {ℓ} :
    {A : Type ℓ} (k : ℕ) (xs rest buffer : List A) (x : A) → drop k xs ≡ x ∷ rest → k < length buffer →
    set (onto (take k xs) buffer) k x ≡ onto (take (suc k) xs) buffer
unfolding onto
onto_one_more k xs rest [] x here room = absurd (not-suc-le-zero room)
onto_one_more zero xs rest (y ∷ buffer) x here room = rw here
onto_one_more (suc k) [] rest (y ∷ buffer) x here room = absurd (not-suc-le-zero (below_length [] rest (suc k) x here))
onto_one_more (suc k) (a ∷ xs) rest (y ∷ buffer) x here room =
    ap (◌∷◌ a) (onto_one_more k xs rest buffer x here (le_of_suc-le-suc room))
