-- A list that is copied to the front of a buffer, element by element.
use Rattle.std.specs.Prelude.{ℕ, ◌+◌, ◌<◌, ◌≤◌, List, ◌≡◌, refl, length, get_or, take, set}
use Rattle.std.proofs.Common.{ap, ◌∙◌, add-one, arith, length-take, take_all, drop-cons}
use Rattle.laws.specs.ListLaws.{onto_one_more}
use Rattle.laws.specs.Lists.{onto}
use Rattle.laws.specs.OntoLaws.{length_onto}

-- the first i elements were copied to a buffer that held `before`
pub record Copied (xs before after : List ℕ) (i : ℕ) : Type 0 where
  pub within : i ≤ length xs
  pub room : i ≤ length before
  pub copied : after ≡ onto (take i xs) before

pub nothing_copied : (xs before : List ℕ) → Copied xs before before 0
unfolding onto
nothing_copied xs before = record { within = omega arith; room = omega arith; copied = refl }

module _ (xs before after : List ℕ) (i : ℕ) (so_far : Copied xs before after i) where
  pub same_length_copied : length after ≡ length before
  same_length_copied = ap length so_far.copied ∙ length_onto (take i xs) before (omega (arith, length-take i xs))

  pub one_more_copied : i < length xs → i < length before → Copied xs before (set after i (get_or xs i 0)) (i + 1)
  one_more_copied more free =
      record {
        within = omega arith;
        room = omega arith;
        copied = rw (so_far.copied, add-one) (onto_one_more i xs _ before (get_or xs i 0) (drop-cons xs i 0 more) free);
      }

  pub all_copied : length xs ≤ i → after ≡ onto xs before
  all_copied past = so_far.copied ∙ rw (take_all i xs past)
