-- Bytes put into a buffer one after another, from a position on.
use Rattle.std.specs.Prelude.{ℕ, ◌+◌, ◌-◌, ◌≤◌, List, [], ◌∷◌, ◌++◌, ◌≡◌, refl, take, set}
use Rattle.std.proofs.Common.{append_assoc, ◌∙◌, add-zero, zero-add, add-one, arith, take-append-drop, take_at, drop_at}
use Rattle.std.proofs.Math.Path.{sym, ap}
use Rattle.std.proofs.Math.ListN.{length, drop, length-append, length-drop}
use Rattle.std.proofs.Math.Seq.{length-take-le, drop-drop}
use Rattle.std.proofs.lemmas.List.{set_split}
use borrow.Rule.Slice.PartMut.{put_mid}
use Rattle.laws.specs.Lists.{onto}

-- the buffer with these bytes from position `at` on
unfoldable pub placed : ℕ → List ℕ → List ℕ → List ℕ
placed at bytes out = take at out ++ (bytes ++ drop (at + length bytes) out)

-- they fit there
pub record Room (out : List ℕ) (at : ℕ) (bytes : List ℕ) : Type 0 where
  pub fits : at + length bytes ≤ length out

-- what a function that puts them leaves, and the position that it answers
pub record Put (out : List ℕ) (at : ℕ) (bytes : List ℕ) (after : List ℕ) (next : ℕ) : Type 0 where
  pub buffer : after ≡ placed at bytes out
  pub position : next ≡ at + length bytes

pub put_nothing : (out : List ℕ) (at : ℕ) → Put out at [] out at
unfolding placed
put_nothing out at = record { buffer = rw (add-zero at, take-append-drop at out); position = omega arith }

pub put_one : (out : List ℕ) (at b : ℕ) → Room out at (b ∷ []) → Put out at (b ∷ []) (set out at b) (at + 1)
unfolding placed
put_one out at b room = record { buffer = rw add-one (set_split out at b (omega arith)); position = refl }

-- bytes copied into a part of the buffer
pub put_copied : (out : List ℕ) (at : ℕ) (bytes : List ℕ) {copied : List ℕ} → copied ≡ bytes →
    Put out at bytes (put_mid at (at + length bytes - at) out copied) (at + length bytes)
unfolding placed
put_copied out at bytes same =
    let width : at + length bytes - at ≡ length bytes = omega arith in
    record { buffer = rw (same, width, drop-drop) refl; position = refl }

-- put from the start, they are written onto the buffer
pub put_from_start : {out bytes after : List ℕ} {n : ℕ} → Put out 0 bytes after n → (n ≡ length bytes) × (after ≡ onto bytes out)
unfolding placed onto
put_from_start put = (omega (arith, put.position), rw zero-add at put.buffer)

pub room_for_first : (xs ys : List ℕ) {out : List ℕ} {at : ℕ} → Room out at (xs ++ ys) → Room out at xs
room_for_first xs ys room = record { fits = omega (arith, room.fits, length-append xs ys) }

module _ {out : List ℕ} {at : ℕ} {xs : List ℕ} {middle : List ℕ} {m : ℕ} where
  pub length_kept : Room out at xs → Put out at xs middle m → length middle ≡ length out
  unfolding placed
  length_kept room first =
      ap length first.buffer
      ∙ rw (length-append, length-append, length-drop, length-take-le at out (omega (arith, room.fits))) (omega (arith, room.fits))

  pub room_for_next : (ys : List ℕ) → Room out at (xs ++ ys) → Put out at xs middle m → Room middle m ys
  room_for_next ys room first =
      let kept = length_kept (room_for_first xs ys room) first in
      record { fits = omega (arith, room.fits, length-append xs ys, first.position, kept) }

  -- what was put stands before what is put next, and the rest is as it was
  module _ (room : Room out at xs) (first : Put out at xs middle m) where
    middle_is : middle ≡ take at out ++ xs ++ drop (at + length xs) out
    unfolding placed
    middle_is = first.buffer ∙ sym (append_assoc (take at out) xs _)

    length_before_next : length (take at out ++ xs) ≡ m
    length_before_next =
        length-append (take at out) xs ∙ omega (arith, length-take-le at out (omega (arith, room.fits)), first.position)

    before_next : take m middle ≡ take at out ++ xs
    before_next = ap (take m) middle_is ∙ take_at (take at out ++ xs) _ m length_before_next

    after_next : drop m middle ≡ drop (at + length xs) out
    after_next = ap (drop m) middle_is ∙ drop_at (take at out ++ xs) _ m length_before_next

  -- bytes put in a row
  pub put_next : {ys after : List ℕ} {n : ℕ} →
      Room out at (xs ++ ys) → Put out at xs middle m → Put middle m ys after n → Put out at (xs ++ ys) after n
  unfolding placed
  put_next {ys} {after} {n} room first next =
      let fitting = room_for_first xs ys room in
      let both : at + length (xs ++ ys) ≡ at + length xs + length ys = omega (arith, length-append xs ys) in
      let rest : drop (m + length ys) middle ≡ drop (at + length xs + length ys) out =
      sym (drop-drop (length ys) m middle)
      ∙ ap (drop (length ys)) (after_next fitting first)
      ∙ drop-drop (length ys) (at + length xs) out in
      record {
        buffer = next.buffer ∙ rw (before_next fitting first, rest, both) (simp append_assoc);
        position = omega (arith, first.position, next.position);
      }

-- of the bytes to be put at `at` some were put, and what is left is to be put at m
pub record Left (out : List ℕ) (at : ℕ) (bytes middle : List ℕ) (m : ℕ) (left : List ℕ) : Type 0 where
  pub room : Room middle m left
  pub whole : {after : List ℕ} {n : ℕ} → Put middle m left after n → Put out at bytes after n

pub all_left : {out : List ℕ} {at : ℕ} {bytes : List ℕ} → Room out at bytes → Left out at bytes out at bytes
all_left room = record { room = room; whole = λ put. put }

module _ {out : List ℕ} {at : ℕ} {bytes middle : List ℕ} {m : ℕ} {xs : List ℕ} where
  pub room_left : (ys : List ℕ) → Left out at bytes middle m (xs ++ ys) → Room middle m xs
  room_left ys before = room_for_first xs ys before.room

  infixl 10 ◌then◌
  pub ◌then◌ : {after : List ℕ} {n : ℕ} {ys : List ℕ} →
      Left out at bytes middle m (xs ++ ys) → Put middle m xs after n → Left out at bytes after n ys
  ◌then◌ {ys} before put =
      record { room = room_for_next ys before.room put; whole = λ next. before.whole (put_next before.room put next) }
