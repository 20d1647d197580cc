-- A state's places, one for each task by its number, written column by column.
use Rattle.std.specs.Prelude.{ℕ, ◌+◌, ◌-◌, ◌≤◌, ◌<◌, List, ◌⊎◌, ◌≡◌, refl, length, get_or, set, replicate}
use Rattle.std.proofs.Common.{inl, inr, sym, ◌∙◌, arith, length-set, get_or-set_same, get_or-set_other}
use Rattle.std.proofs.lemmas.List.{get_or-replicate}
use Rattle.laws.specs.Below.{below_suc, lt_or_le}
use Rattle.ranges.specs.Limits.{most_tasks}
use Rattle.dispatcher.specs.ColumnLaws.{RisingNumbers, number_of_column, no_column, nothing_beyond}
use Rattle.dispatcher.specs.Columns.{column_of}

-- the place of column j's task
abbrev pub place_of : List ℕ → ℕ → ℕ
place_of numbers j = get_or numbers j 0 - 1

pub place_within : (numbers : List ℕ) → RisingNumbers numbers → (j : ℕ) → j < length numbers → place_of numbers j < most_tasks
place_within numbers rise j l = omega (arith, rise.above_0 j l, rise.at_most j l)

-- the places of the first n columns' tasks hold f, the others what they held before
pub record Placed (numbers : List ℕ) (f : ℕ → ℕ) (before after : List ℕ) (n : ℕ) : Type 0 where
  pub places : length after ≡ most_tasks
  pub its : (j : ℕ) → j < n → get_or after (place_of numbers j) 0 ≡ f j
  pub others : (i : ℕ) → ((j : ℕ) → j < n → place_of numbers j ≡ i → ⊥) → get_or after i 0 ≡ get_or before i 0

module _ (numbers : List ℕ) (f : ℕ → ℕ) (before : List ℕ) where
  pub none_placed : length before ≡ most_tasks → Placed numbers f before before 0
  none_placed long = record { places = long; its = λ j l. absurd (omega arith); others = λ i none. refl }

  module _ (rise : RisingNumbers numbers) where
    module _ (after : List ℕ) (n : ℕ) (so_far : Placed numbers f before after n) where
      earlier_place : n < length numbers → (j : ℕ) → j < n → place_of numbers j ≡ place_of numbers n → ⊥
      earlier_place l j b same = omega (arith, rise.rising j n b l, rise.above_0 j (omega arith), rise.above_0 n l)

      -- the next place is as before
      pub not_yet_placed : n < length numbers → get_or after (place_of numbers n) 0 ≡ get_or before (place_of numbers n) 0
      not_yet_placed l = so_far.others (place_of numbers n) (earlier_place l)

      pub next_placed : n < length numbers → (v : ℕ) → v ≡ f n → Placed numbers f before (set after (place_of numbers n) v) (n + 1)
      next_placed l v here = record {
        places = length-set after (place_of numbers n) v ∙ so_far.places;
        its = λ j b.
            below_suc (λ j. get_or (set after (place_of numbers n) v) (place_of numbers j) 0 ≡ f j) n
            (λ j b. get_or-set_other after (place_of numbers n) (place_of numbers j) v 0 (earlier_place l j b) ∙ so_far.its j b)
            (get_or-set_same after (place_of numbers n) v 0 (omega (arith, so_far.places, place_within numbers rise n l)) ∙ here)
            j (omega arith);
        others = λ i none.
            get_or-set_other after (place_of numbers n) i v 0 (λ same. none n (omega arith) (sym same))
            ∙ so_far.others i (λ j b. none j (omega arith));
      }

    module _ (after : List ℕ) (all : Placed numbers f before after (length numbers)) (i : ℕ) where
      pub placed_at : column_of numbers i < length numbers → get_or after i 0 ≡ f (column_of numbers i)
      placed_at l =
          let here : place_of numbers (column_of numbers i) ≡ i = omega (arith, number_of_column numbers i l) in
          rw here at (all.its (column_of numbers i) l)

      pub kept_elsewhere : length numbers ≤ column_of numbers i → get_or after i 0 ≡ get_or before i 0
      kept_elsewhere beyond = all.others i (λ j l here. no_column numbers i j beyond l (omega (arith, rise.above_0 j l)))

-- the ticks of a job of each task, by its number: none of one that has no column
pub record TicksByNumber (numbers ticks placed : List ℕ) : Type 0 where
  pub places : length placed ≡ most_tasks
  pub its_ticks : (i : ℕ) → i < most_tasks → get_or placed i 0 ≡ get_or ticks (column_of numbers i) 0

pub all_ticks_placed : (numbers ticks placed : List ℕ) → RisingNumbers numbers → length ticks ≡ length numbers →
    Placed numbers (λ j. get_or ticks j 0) (replicate most_tasks 0) placed (length numbers) → TicksByNumber numbers ticks placed
all_ticks_placed numbers ticks placed rise same all = record { places = all.places; its_ticks = λ i l. go i l (lt_or_le (column_of numbers i) (length numbers)) }
  where
    go : (i : ℕ) → i < most_tasks → (column_of numbers i < length numbers) ⊎ (length numbers ≤ column_of numbers i) →
        get_or placed i 0 ≡ get_or ticks (column_of numbers i) 0
    go i l (inl found) = placed_at numbers (λ j. get_or ticks j 0) (replicate most_tasks 0) rise placed all i found
    go i l (inr beyond) =
        kept_elsewhere numbers (λ j. get_or ticks j 0) (replicate most_tasks 0) rise placed all i beyond
        ∙ get_or-replicate most_tasks i 0 0 l
        ∙ sym (nothing_beyond numbers ticks i same beyond)
