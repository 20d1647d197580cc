-- Parts put in a row by a loop: part i is `part i`, and there are n of them.
use Rattle.std.specs.Prelude.{ℕ, zero, suc, ◌+◌, ◌≤◌, ◌<◌, List, [], ◌∷◌, ◌++◌, ◌≡◌, refl, length, get_or, take}
use Rattle.std.proofs.Common.{⊎_elim, sym, subst, ◌∙◌, eq-or-lt_of_le, le_of_suc-le-suc, le_antisymm, arith, length-append, take-suc}
use Rattle.std.proofs.Math.Numerals.{add-one}
use Rattle.std.proofs.Math.Seq.{take-length}
use Rattle.laws.specs.Lists.{joined}
use Rattle.listing_lines.specs.Placing.{Room, Put, put_nothing, room_for_next, put_next, length_kept}

-- the first i parts were put
pub record PartsPut (part : ℕ → List ℕ) (n : ℕ) (out : List ℕ) (at : ℕ) (after : List ℕ) (next i : ℕ) : Type 0 where
  pub put : Put out at (joined part i) after next
  pub within : i ≤ n

joined_at_most : (part : ℕ → List ℕ) (i n : ℕ) → i ≤ n → length (joined part i) ≤ length (joined part n)
unfolding joined
joined_at_most part i zero h = rw (le_antisymm h (omega arith)) (omega arith)
joined_at_most part i (suc n) h =
    ⊎_elim
    (λ (e : i ≡ suc n). rw e (omega arith))
    (λ (l : i < suc n). omega (arith, joined_at_most part i n (le_of_suc-le-suc l), length-append (joined part n) (part n)))
    (eq-or-lt_of_le h)

pub no_part_put : (part : ℕ → List ℕ) (n : ℕ) (out : List ℕ) (at : ℕ) → PartsPut part n out at out at 0
unfolding joined
no_part_put part n out at = record { put = put_nothing out at; within = omega arith }

module _ {part : ℕ → List ℕ} {n : ℕ} {out : List ℕ} {at : ℕ} (room : Room out at (joined part n))
    {after : List ℕ} {next i : ℕ} (parts : PartsPut part n out at after next i) where
  room_so_far : (k : ℕ) → k ≤ n → Room out at (joined part k)
  room_so_far k h = record { fits = omega (arith, room.fits, joined_at_most part k n h) }

  pub parts_keep_length : length after ≡ length out
  parts_keep_length = length_kept (room_so_far i parts.within) parts.put

  module _ (more : i < n) where
    room_with_part : Room out at (joined part i ++ part i)
    unfolding joined
    room_with_part = room_so_far (suc i) more

    pub room_for_part : Room after next (part i)
    room_for_part = room_for_next (part i) room_with_part parts.put

    pub part_put : {later : List ℕ} {end : ℕ} → Put after next (part i) later end → PartsPut part n out at later end (i + 1)
    unfolding joined
    part_put p = rw add-one (record { put = put_next room_with_part parts.put p; within = more })

  pub all_parts_put : n ≤ i → Put out at (joined part n) after next
  all_parts_put all = subst (λ (k : ℕ). Put out at (joined part k) after next) (le_antisymm parts.within all) parts.put

-- bytes one by one
pub joined_of_ones : (bytes : List ℕ) → joined (λ k. get_or bytes k 0 ∷ []) (length bytes) ≡ bytes
unfolding joined
joined_of_ones bytes = go (length bytes) (omega arith) ∙ take-length bytes
  where
    go : (n : ℕ) → n ≤ length bytes → joined (λ k. get_or bytes k 0 ∷ []) n ≡ take n bytes
    go zero h = refl
    go (suc n) h = rw (go n (omega arith)) (sym (take-suc bytes n 0 h))

pub one_by_one : (bytes : List ℕ) {out : List ℕ} {at : ℕ} →
    Room out at bytes → Room out at (joined (λ k. get_or bytes k 0 ∷ []) (length bytes))
one_by_one bytes room = rw joined_of_ones room
