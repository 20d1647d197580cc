-- Columns that fit, column by column; and the column of each task.
use Rattle.std.specs.Prelude.{ℕ, zero, suc, ◌+◌, ◌≤◌, ◌<◌, Bool, true, false, ◌&&◌, List, ◌≡◌, leb, ltb, length}
use Rattle.std.proofs.Common.{⊎_elim, eq-or-lt_of_le, le_of_suc-le-suc, add-one, arith}
use Rattle.std.proofs.Math.Path.{refl, sym}
use Rattle.std.proofs.Math.Dec.{eqb}
use Rattle.std.proofs.Math.ListN.{get_or, get_or-eq_default}
use borrow.Author.Tests.{lt-ltb, ltb-true, le-leb, leb-true, eqb-true, eq-eqb, ne_eqb}
use Rattle.laws.specs.FirstLaws.{first_is_first, first_unique}
use Rattle.laws.specs.Search.{every}
use Rattle.laws.specs.SearchFacts.{every_iff}
use Rattle.laws.specs.Truth.{and_is_true, false_not_true}
use Rattle.ranges.specs.Limits.{most_tasks}
use Rattle.dispatcher.specs.TestLaws.{one_fails}
use Rattle.dispatcher.specs.Columns.{column_of, number_before, column_fits, columns_fit}

-- numbers of tasks, each above the one before and with a place in a state
pub record RisingNumbers (numbers : List ℕ) : Type 0 where
  pub above_0 : (j : ℕ) → j < length numbers → 0 < get_or numbers j 0
  pub at_most : (j : ℕ) → j < length numbers → get_or numbers j 0 ≤ most_tasks
  pub rising : (i j : ℕ) → i < j → j < length numbers → get_or numbers i 0 < get_or numbers j 0

pub record CoreColumns (numbers periods windows ticks : List ℕ) : Type 0 where
  pub numbers_rise : RisingNumbers numbers
  pub one_period_each : length periods ≡ length numbers
  pub one_window_each : length windows ≡ length numbers
  pub one_job_each : length ticks ≡ length numbers
  pub period_above_0 : (j : ℕ) → j < length numbers → 0 < get_or periods j 0

and_is_false_at : (a b : Bool) → b ≡ false → a && b ≡ false
and_is_false_at true b e = e
and_is_false_at false b e = refl

-- what three tests in a row say
pub three_are_true : (a b c : Bool) → a && b && c ≡ true → (a ≡ true) × (b ≡ true) × (c ≡ true)
three_are_true a b c e =
    let last = (and_is_true (a && b) c).0 e in
    let both = (and_is_true a b).0 last.0 in
    (both.0, both.1, last.1)

-- what a test of the columns answers
module _ (numbers periods windows ticks : List ℕ) where
  abbrev same_lengths : Bool
  same_lengths = eqb (length periods) (length numbers) && eqb (length windows) (length numbers) && eqb (length ticks) (length numbers)

  pub lengths_refused : same_lengths ≡ false → false ≡ columns_fit numbers periods windows ticks
  unfolding columns_fit
  lengths_refused differ = rw differ refl

  pub column_refused : (j : ℕ) → j < length numbers → column_fits numbers periods j ≡ false → false ≡ columns_fit numbers periods windows ticks
  unfolding columns_fit
  column_refused j l fails = sym (and_is_false_at same_lengths _ (sym (one_fails (column_fits numbers periods) (length numbers) j l fails)))

  pub all_columns_fit : (j : ℕ) → j ≡ length numbers →
      (eqb (length periods) (length numbers) ≡ true) × (eqb (length windows) (length numbers) ≡ true) × (eqb (length ticks) (length numbers) ≡ true) →
      every (column_fits numbers periods) j ≡ true → true ≡ columns_fit numbers periods windows ticks
  unfolding columns_fit
  all_columns_fit j all same fit = rw (same.0, same.1, same.2, rw all at fit) refl

pub next_number : (numbers : List ℕ) (j : ℕ) → get_or numbers j 0 ≡ number_before numbers (j + 1)
next_number numbers j = rw (add-one j) refl

module _ (numbers periods windows ticks : List ℕ) (fit : columns_fit numbers periods windows ticks ≡ true) where
  abbrev n : ℕ
  n = length numbers

  tested : (eqb (length periods) n && eqb (length windows) n && eqb (length ticks) n ≡ true) × (every (column_fits numbers periods) n ≡ true)
  unfolding columns_fit
  tested =
      (and_is_true (eqb (length periods) n && eqb (length windows) n && eqb (length ticks) n) (every (column_fits numbers periods) n)).0 fit

  lengths : (eqb (length periods) n ≡ true) × (eqb (length windows) n ≡ true) × (eqb (length ticks) n ≡ true)
  lengths = three_are_true (eqb (length periods) n) (eqb (length windows) n) (eqb (length ticks) n) tested.0

  record FittingColumn (j : ℕ) : Type 0 where
    period_above_0 : 0 < get_or periods j 0
    above_before : number_before numbers j < get_or numbers j 0
    at_most : get_or numbers j 0 ≤ most_tasks

  column : (j : ℕ) → j < n → FittingColumn j
  unfolding column_fits
  column j l =
      let number = get_or numbers j 0 in
      let all =
      three_are_true (ltb 0 (get_or periods j 0)) (ltb (number_before numbers j) number) (leb number most_tasks)
      ((every_iff (column_fits numbers periods) n).0 tested.1 j l) in
      record {
        period_above_0 = ltb-true 0 (get_or periods j 0) all.0;
        above_before = ltb-true (number_before numbers j) number all.1;
        at_most = leb-true number most_tasks all.2;
      }

  above_0 : (j : ℕ) → j < length numbers → 0 < get_or numbers j 0
  above_0 j l = omega (arith, (column j l).above_before)

  rising : (i j : ℕ) → i < j → j < length numbers → get_or numbers i 0 < get_or numbers j 0
  rising i zero before l = absurd (omega arith)
  rising i (suc j) before l =
      ⊎_elim
      (λ (e : i ≡ j). rw e (column (suc j) l).above_before)
      (λ (b : i < j). omega (arith, rising i j b (omega arith), (column (suc j) l).above_before))
      (eq-or-lt_of_le (le_of_suc-le-suc before))

  pub fitting_columns : CoreColumns numbers periods windows ticks
  fitting_columns = record {
    numbers_rise = record { above_0 = above_0; at_most = λ j l. (column j l).at_most; rising = rising };
    one_period_each = eqb-true (length periods) n lengths.0;
    one_window_each = eqb-true (length windows) n lengths.1;
    one_job_each = eqb-true (length ticks) n lengths.2;
    period_above_0 = λ j l. (column j l).period_above_0;
  }

pub core_columns_fit : {numbers periods windows ticks : List ℕ} → CoreColumns numbers periods windows ticks → columns_fit numbers periods windows ticks ≡ true
unfolding columns_fit column_fits
core_columns_fit {numbers} {periods} {windows} {ticks} columns =
    let fits : (j : ℕ) → j < length numbers → column_fits numbers periods j ≡ true =
    λ j l.
    rw (
      lt-ltb 0 (get_or periods j 0) (columns.period_above_0 j l),
      lt-ltb (number_before numbers j) (get_or numbers j 0) (above_before j l),
      le-leb (get_or numbers j 0) most_tasks (columns.numbers_rise.at_most j l),
    )
    refl in
    rw (
      eq-eqb (length periods) (length numbers) columns.one_period_each,
      eq-eqb (length windows) (length numbers) columns.one_window_each,
      eq-eqb (length ticks) (length numbers) columns.one_job_each,
      (every_iff (column_fits numbers periods) (length numbers)).1 fits,
    )
    refl
  where
    above_before : (j : ℕ) → j < length numbers → number_before numbers j < get_or numbers j 0
    above_before zero l = columns.numbers_rise.above_0 0 l
    above_before (suc j) l = columns.numbers_rise.rising j (suc j) (omega arith) l

-- there is no column beyond the places
pub column_below_number : (numbers : List ℕ) → RisingNumbers numbers → (j : ℕ) → j < length numbers → j < get_or numbers j 0
column_below_number numbers rise zero l = rise.above_0 0 l
column_below_number numbers rise (suc j) l =
    omega (arith, column_below_number numbers rise j (omega arith), rise.rising j (suc j) (omega arith) l)

module _ (numbers : List ℕ) where
  pub number_of_column : (i : ℕ) → column_of numbers i < length numbers → get_or numbers (column_of numbers i) 0 ≡ suc i
  unfolding column_of
  number_of_column i l = eqb-true _ _ ((first_is_first (λ j. eqb (get_or numbers j 0) (suc i)) (length numbers)).passes_below l)

  -- a task without a column: no column has its number, ..
  pub no_column : (i j : ℕ) → length numbers ≤ column_of numbers i → j < length numbers → get_or numbers j 0 ≡ suc i → ⊥
  unfolding column_of
  no_column i j beyond l e =
      false_not_true
      ((first_is_first (λ j. eqb (get_or numbers j 0) (suc i)) (length numbers)).none_below j (omega arith))
      (eq-eqb (get_or numbers j 0) (suc i) e)

  -- .. and it has no ticks
  pub nothing_beyond : (xs : List ℕ) (i : ℕ) → length xs ≡ length numbers → length numbers ≤ column_of numbers i → get_or xs (column_of numbers i) 0 ≡ 0
  nothing_beyond xs i same beyond = get_or-eq_default xs 0 {n = column_of numbers i} (omega arith)

  module _ (rise : RisingNumbers numbers) where
    pub column_of_number : (i j : ℕ) → j < length numbers → get_or numbers j 0 ≡ suc i → column_of numbers i ≡ j
    unfolding column_of
    column_of_number i j l e =
        first_unique (λ j. eqb (get_or numbers j 0) (suc i))
        (record {
          at_most = omega arith;
          none_below = λ m b. ne_eqb (get_or numbers m 0) (suc i) (λ same. omega (arith, rise.rising m j b l));
          passes_below = λ _. eq-eqb (get_or numbers j 0) (suc i) e;
        })
