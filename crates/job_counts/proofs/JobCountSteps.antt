-- The count of a job, slot by slot.
use Rattle.std.specs.Prelude.{ℕ, ◌+◌, ◌-◌, ◌≤◌, ◌<◌, false, List, ◌⊎◌, ◌≡◌, length, get_or}
use Rattle.std.proofs.Math.Logic.{⊎_elim, inl, inr}
use Rattle.std.proofs.Math.Path.{refl}
use Rattle.std.proofs.Common.{le_refl, arith}
use Rattle.std.proofs.Math.Numerals.{add-one}
use borrow.Author.Count.{below_none, below_more}
use borrow.Author.Tests.{lt-ltb, le-ltb, ne_eqb}
use Rattle.laws.specs.FirstLaws.{first_unique}
use Rattle.laws.specs.Search.{first, count}
use Rattle.laws.specs.SearchFacts.{first_of_none}
use Rattle.laws.specs.Truth.{not_true_is_false}
use Rattle.job_counts.proofs.JobCountLaws.{too_many_iff, held_with_next, count_ends}
use Rattle.job_counts.specs.JobCounts.{kind_number, slots_held, is_too_many, count_job, TooMany, CountEnds}
use Rattle.job_counts.specs.declared.CountKind.TheVariants.{Short, Right, Over}
use Rattle.job_counts.specs.declared.Counted.{Counted}

-- the first x slots are read: none is too many, and so many ticks are left
pub record CountedUpTo (slots : List ℕ) (number window ticks left x : ℕ) : Type 0 where
  pub within : x ≤ length slots
  pub all_ticks : slots_held slots number x + left ≡ ticks
  pub none_too_many : (y : ℕ) → y < x → is_too_many slots number window ticks y ≡ false

module _ (slots : List ℕ) (number window ticks : ℕ) where
  pub counting_begins : CountedUpTo slots number window ticks ticks 0
  unfolding slots_held count
  counting_begins = record { within = omega arith; all_ticks = omega arith; none_too_many = below_none _ }

  module _ (left x : ℕ) (c : CountedUpTo slots number window ticks left x) where
    module _ (l : x < length slots) where
      not_too_many : (TooMany slots number window ticks x → ⊥) → (y : ℕ) → y < x + 1 → is_too_many slots number window ticks y ≡ false
      not_too_many other =
          below_more _ x c.none_too_many (not_true_is_false _ (λ e. other ((too_many_iff slots number window ticks x l).0 e)))

      pub other_slot_passed : (get_or slots x 0 ≡ number → ⊥) → CountedUpTo slots number window ticks left (x + 1)
      unfolding slots_held count
      other_slot_passed other =
          record {
            within = omega arith;
            all_ticks = rw (add-one x, ne_eqb (get_or slots x 0) number other) (omega (arith, c.all_ticks));
            none_too_many = not_too_many (λ t. other t.its_number);
          }

      module _ (its_number : get_or slots x 0 ≡ number) where
        pub its_slot_passed : (left ≡ 0 → ⊥) → x < window → CountedUpTo slots number window ticks (left - 1) (x + 1)
        its_slot_passed some before =
            record {
              within = omega arith;
              all_ticks = rw (add-one x) (omega (arith, c.all_ticks, held_with_next slots number window ticks x its_number, some));
              none_too_many = not_too_many (λ t.
                  ⊎_elim (λ enough. omega (arith, c.all_ticks, some)) (λ due. omega arith) t.too_many);
            }

        pub slot_too_many_is_over : (left ≡ 0) ⊎ (window ≤ x) → record { kind = Over; read = x + 1 } ≡ count_job slots number window ticks
        unfolding count_job
        slot_too_many_is_over more =
            let too_many : (ticks ≤ slots_held slots number x) ⊎ (window ≤ x) =
            ⊎_elim (λ none. inl (omega (arith, c.all_ticks))) (λ due. inr due) more in
            let here : first (is_too_many slots number window ticks) (length slots) ≡ x =
            first_unique _ (record {
              at_most = c.within;
              none_below = c.none_too_many;
              passes_below = λ _. (too_many_iff slots number window ticks x l).1 (record { is_slot = l; its_number = its_number; too_many = too_many });
            }) in
            rw (here, lt-ltb x (length slots) l, add-one x) refl

    module _ (whole : length slots ≤ x) where
      at_end : x ≡ length slots
      at_end = omega (arith, c.within)

      none_found : first (is_too_many slots number window ticks) (length slots) ≡ length slots
      none_found = first_of_none _ _ (λ y l. c.none_too_many y (omega arith))

      pub all_ticks_is_right : left ≡ 0 → record { kind = Right; read = length slots } ≡ count_job slots number window ticks
      unfolding count_job
      all_ticks_is_right none =
          rw (none_found, le-ltb _ _ (le_refl (length slots)), ← at_end, le-ltb (slots_held slots number x) ticks (omega (arith, c.all_ticks))) refl

      pub ticks_left_is_short : (left ≡ 0 → ⊥) → record { kind = Short; read = length slots } ≡ count_job slots number window ticks
      unfolding count_job
      ticks_left_is_short some =
          rw (none_found, le-ltb _ _ (le_refl (length slots)), ← at_end, lt-ltb (slots_held slots number x) ticks (omega (arith, c.all_ticks, some))) refl

  -- what the contract says of an answer
  pub count_is_promised : (r : Counted) → r ≡ count_job slots number window ticks →
      (r ≡ count_job slots number window ticks) × CountEnds slots number window ticks (kind_number r.kind) r.read
  count_is_promised r e = (e, rw e (count_ends slots number window ticks))
