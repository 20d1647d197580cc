-- When a lent buffer has room, and what stands at its front afterwards.
use Rattle.std.specs.Prelude.{ℕ, ◌≤◌, ◌<◌, Bool, true, false, cond, List, ◌≡◌, refl, leb, length, take, Err}
use Rattle.std.proofs.Math.Path.{ap}
use Rattle.std.proofs.Common.{◌∙◌, arith, leb-true, le-leb}
use Rattle.std.proofs.Math.ListN.{drop}
use Rattle.std.proofs.Math.Seq.{take_at, drop_at}
use Rattle.std.proofs.lemmas.Bool.{lt-leb}
use Rattle.laws.specs.Lists.{onto}
use Rattle.laws.specs.OntoLaws.{length_onto}
use Rattle.refusals.specs.Refusals.{room, accepted}
use Rattle.refusals.specs.declared.Refusal.TheVariants.{ShortBuffer}
use Rattle.refusals.specs.Endings.{lent, FrontWritten}

pub enough_room : (needed : ℕ) (buffer : List ℕ) → needed ≤ length buffer → room needed buffer ≡ accepted
unfolding room
enough_room needed buffer enough = rw (le-leb needed (length buffer) enough)

pub no_room : (needed : ℕ) (buffer : List ℕ) → length buffer < needed → room needed buffer ≡ Err (ShortBuffer needed)
unfolding room
no_room needed buffer short = rw (lt-leb needed (length buffer) short)

pub room_accepts : (needed : ℕ) (buffer : List ℕ) → room needed buffer ≡ accepted → needed ≤ length buffer
unfolding room
room_accepts needed buffer = go (leb needed (length buffer)) refl
  where
    go : (t : Bool) → leb needed (length buffer) ≡ t → cond t accepted (Err (ShortBuffer needed)) ≡ accepted → needed ≤ length buffer
    go true enough e = leb-true _ _ enough
    go false short e = let z : ◌≡◌ {A = ℕ} 0 1 = cc in absurd (omega arith)

module _ (xs buffer : List ℕ) {n : ℕ} (same : length xs ≡ n) where
  pub front_of_onto : take n (onto xs buffer) ≡ xs
  unfolding onto
  front_of_onto = take_at xs _ _ same

  pub front_written : n ≤ length buffer → FrontWritten (lent n buffer (onto xs buffer))
  unfolding onto
  front_written enough =
      record {
        same_length = length_onto xs buffer (omega arith);
        rest_as_before = drop_at xs _ _ same ∙ ap (λ (n : ℕ). drop n buffer) same;
      }
