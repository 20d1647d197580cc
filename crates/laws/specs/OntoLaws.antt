-- A list that is written to the front of a buffer, element by element or part by part.
use Rattle.std.specs.Prelude.{ℕ, suc, ◌+◌, ◌-◌, ◌≤◌, ◌<◌, List, ◌∷◌, ◌++◌, ◌≡◌, set}
use Rattle.std.proofs.Common.{append_assoc, append-nil, ◌∙◌, arith, length-append, length-drop, drop_of_length-le, take_at}
use Rattle.std.proofs.Math.Path.{refl}
use Rattle.std.proofs.Math.Numerals.{add-one}
use Rattle.std.proofs.Math.ListN.{length, get_or, drop, get_or-append}
use Rattle.std.proofs.Math.Seq.{drop-append-add, drop-cons, drop-drop, set_at}
use Rattle.std.proofs.lemmas.List.{get_or_at}
use borrow.Rule.Slice.PartMut.{put_mid, Post-is}
use Rattle.laws.specs.JoinedLaws.{length-list_of, get_d-list_of}
use Rattle.laws.specs.Lists.{list_of, onto}

module _ {A : Type 0} where
  pub length_onto : (xs buffer : List A) → length xs ≤ length buffer → length (onto xs buffer) ≡ length buffer
  unfolding onto
  length_onto xs buffer room = simp (length-append, length-drop) (omega arith)

  pub onto_all : (xs buffer : List A) → length xs ≡ length buffer → onto xs buffer ≡ xs
  unfolding onto
  onto_all xs buffer same = rw (drop_of_length-le buffer {i = length xs} (omega arith), append-nil)

  -- a part more: ys in the place of what follows xs
  pub put_onto : (xs ys buffer : List A) (a n : ℕ) → length xs ≡ a → length ys ≡ n →
      put_mid a ((a + n) - a) (onto xs buffer) ys ≡ onto (xs ++ ys) buffer
  unfolding onto
  put_onto xs ys buffer a n from long =
      let rest : drop (a + n) (xs ++ drop (length xs) buffer) ≡ drop (length (xs ++ ys)) buffer =
      rw (← from, ← long, drop-append-add, drop-drop, length-append) refl in
      rw (take_at xs _ a from, Post-is a (a + n) (xs ++ drop (length xs) buffer) (omega arith), rest, append_assoc) refl

  module _ (f : ℕ → A) (buffer : List A) where
    pub get_d-onto-list_of : (n i : ℕ) (d : A) → i < n → get_or (onto (list_of f n) buffer) i d ≡ f i
    unfolding onto
    get_d-onto-list_of n i d l =
        let within : i < length (list_of f n) = rw length-list_of l in
        get_or-append (list_of f n) _ d i within ∙ get_d-list_of f n i d l

    -- what stands next in the buffer
    pub get_d-onto-list_of-next : (n : ℕ) (d : A) → n < length buffer → get_or (onto (list_of f n) buffer) n d ≡ get_or buffer n d
    unfolding onto
    get_d-onto-list_of-next n d l = rw (length-list_of f n, drop-cons buffer n d) (get_or_at (list_of f n) (get_or buffer n d) _ d n (length-list_of f n))

    -- one element more
    pub set_onto-list_of : (n : ℕ) → n < length buffer → set (onto (list_of f n) buffer) n (f n) ≡ onto (list_of f (n + 1)) buffer
    unfolding onto list_of
    set_onto-list_of n l =
        let rest : drop (length (list_of f n)) buffer ≡ get_or buffer n (f n) ∷ drop (suc n) buffer = rw length-list_of (drop-cons buffer n (f n) l) in
        rw (rest, set_at (list_of f n) _ _ (f n) n (length-list_of f n), add-one n, length-list_of f (suc n), append_assoc) refl

    pub next_onto-list_of : (n : ℕ) (v : A) (l : List A) → n < length buffer → l ≡ onto (list_of f n) buffer → v ≡ f n →
        set l n v ≡ onto (list_of f (n + 1)) buffer
    next_onto-list_of n v l h before here = rw (before, here) (set_onto-list_of n h)
