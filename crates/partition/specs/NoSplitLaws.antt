-- Where no split of some sets has two parts with a value, nothing is lowered.
use Rattle.std.specs.Prelude.{ℕ, suc, ◌+◌, ◌^◌, ◌<◌, Bool, true, false, List, [], ◌∷◌, ◌≡◌, refl, length}
use Rattle.std.proofs.Common.{sym, ap, ◌∙◌, inr, le_refl}
use Rattle.assignment.specs.Entries.{entry_at}
use Rattle.assignment.specs.LeastLaws.{lesser_none}
use Rattle.assignment.specs.Partition.{least_split}
use Rattle.assignment.specs.SetLaws.{set_number-below}
use Rattle.assignment.specs.Sets.{set_number}
use Rattle.assignment.specs.Values.{Value, none, lesser}
use Rattle.assignment.specs.Words.{words_none}
use Rattle.partition.specs.Splits.{sum_at, least_from, LoweredFrom, NoSplit}
use Rattle.partition.specs.declared.splits.Split.{Split}

-- all splits none
no_split_none : (S : List Bool) (f : List Bool → List Bool → Value) →
    ((T R : List Bool) → length T ≡ length S → length R ≡ length S → f T R ≡ none) → least_split S f ≡ none
unfolding least_split
no_split_none [] f each = each [] [] refl refl
no_split_none (false ∷ S) f each =
    no_split_none S (λ T R. f (false ∷ T) (false ∷ R)) (λ T R a b. each (false ∷ T) (false ∷ R) (ap suc a) (ap suc b))
no_split_none (true ∷ S) f each =
    rw (
      no_split_none S (λ T R. f (true ∷ T) (false ∷ R)) (λ T R a b. each (true ∷ T) (false ∷ R) (ap suc a) (ap suc b)),
      no_split_none S (λ T R. f (false ∷ T) (true ∷ R)) (λ T R a b. each (false ∷ T) (true ∷ R) (ap suc a) (ap suc b)),
    )
    (lesser_none none)

pub nothing_lowered : (split : Split) (tops top_keys rests rest_keys costs keys : List ℕ) → NoSplit split tops rests → (k : ℕ) → split.size ≡ 2 ^ k →
    LoweredFrom k split (sum_at tops top_keys rests rest_keys) costs keys costs keys
unfolding least_from sum_at
nothing_lowered split tops top_keys rests rest_keys costs keys empty k is_power =
    record {
      there = λ S of_items.
          let nothing : least_from k (sum_at tops top_keys rests rest_keys) split.t split.r S ≡ none =
          no_split_none S _ (λ T R a b.
          let below_top : set_number k T < split.size = rw (is_power, ← (a ∙ of_items)) (set_number-below (length T) T) in
          let below_rest : set_number k R < split.size = rw (is_power, ← (b ∙ of_items)) (set_number-below (length R) R) in
          words_none _ _ (empty.none (set_number k T) (set_number k R) below_top below_rest)) in
          sym (ap (lesser (entry_at costs keys (split.s + set_number k S))) nothing ∙ lesser_none _);
      elsewhere = λ x outside. record { cost = refl; key = refl };
      no_dearer = record { at = λ x. inr (refl, le_refl _) };
    }
