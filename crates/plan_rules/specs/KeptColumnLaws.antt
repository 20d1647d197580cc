-- Columns of a core's kept tasks, task by task.
use Rattle.std.specs.Prelude.{ℕ, suc, ◌+◌, ◌-◌, ◌<◌, true, false, List, ◌≡◌, length, get_or, set}
use Rattle.std.proofs.Common.{◌∙◌, add-one, length-set, get_or-set_same, get_or-set_other}
use native.Mathlib.Omega.{arith}
use Rattle.ranges.specs.Limits.{most_tasks}
use Rattle.laws.specs.Below.{below_suc}
use Rattle.laws.specs.Truth.{false_not_true}
use Rattle.instance.specs.Node.{Problem, level_at, task_at, task_count}
use Rattle.plan_rules.specs.KeptColumns.{HeldTask, HeldAt, KeptColumns, Places, place_of}
use Rattle.plan_rules.specs.Quantities.{keeps, job_ticks, level_of, ticks_on}
use Rattle.plan_rules.specs.Windows.{window}
use Rattle.plan_rules.specs.declared.columns.KeptTasks.{KeptTasks}

pub is_task : (p : Problem) (plan : List ℕ) (k : ℕ) (kept : KeptTasks) → KeptColumns p plan k (task_count p) kept →
    (j : ℕ) → j < kept.count → place_of kept j < task_count p
is_task p plan k kept columns j l = omega (arith, (columns.held j l).above_0, (columns.held j l).at_most)

module _ (p : Problem) (plan : List ℕ) (k : ℕ) where
  pub no_tasks_yet : (kept : KeptTasks) → kept.count ≡ 0 → Places kept → KeptColumns p plan k 0 kept
  no_tasks_yet kept none places = record {
    places = places;
    no_more = omega arith;
    ascending = λ i j l m. omega arith;
    held = λ j l. absurd (omega arith);
    every_kept = λ i l kept. absurd (omega arith);
  }

  one_task_more : {m number period its_window ticks power : ℕ} → HeldTask p plan k m number period its_window ticks power →
      HeldTask p plan k (m + 1) number period its_window ticks power
  one_task_more held = record {
    above_0 = held.above_0;
    at_most = omega (arith, held.at_most);
    is_kept = held.is_kept;
    same_period = held.same_period;
    same_window = held.same_window;
    same_ticks = held.same_ticks;
    same_power = held.same_power;
  }

  module _ (m : ℕ) (kept : KeptTasks) (columns : KeptColumns p plan k m kept) where
    pub passed_over : keeps p plan k m ≡ false → KeptColumns p plan k (m + 1) kept
    passed_over refused = record {
      places = columns.places;
      no_more = omega (arith, columns.no_more);
      ascending = columns.ascending;
      held = λ j l. one_task_more (columns.held j l);
      every_kept = λ i l is_kept.
          below_suc (λ i. keeps p plan k i ≡ true → (j : ℕ) × (j < kept.count) × (get_or kept.numbers j 0 ≡ suc i)) m columns.every_kept
          (λ is_kept. absurd (false_not_true refused is_kept)) i (omega arith) is_kept;
    }

    abbrev n : ℕ
    n = kept.count

    module _ (number period its_window its_ticks power : ℕ) (room : m < most_tasks) (is_kept : keeps p plan k m ≡ true) (is_number : number ≡ m + 1)
        (is_period : period ≡ (task_at p m).period) (is_window : its_window ≡ window (task_at p m)) (are_ticks : its_ticks ≡ job_ticks p plan m)
        (is_power : power ≡ (level_at p (level_of p plan m)).power) where
      abbrev pub with_task : KeptTasks
      with_task =
          record {
            count = n + 1;
            numbers = set kept.numbers n number;
            periods = set kept.periods n period;
            windows = set kept.windows n its_window;
            ticks = set kept.ticks n its_ticks;
            powers = set kept.powers n power;
          }

      inside : n < most_tasks
      inside = omega (arith, columns.no_more)

      before : (xs : List ℕ) (v j : ℕ) → j < n → get_or (set xs n v) j 0 ≡ get_or xs j 0
      before xs v j l = get_or-set_other xs n j v 0 (λ e. omega arith)

      at_end : (xs : List ℕ) (v : ℕ) → length xs ≡ most_tasks → get_or (set xs n v) n 0 ≡ v
      at_end xs v long = get_or-set_same xs n v 0 (omega (arith, inside))

      number_at_end : get_or (set kept.numbers n number) n 0 ≡ suc m
      number_at_end = at_end kept.numbers number columns.places.of_numbers ∙ is_number ∙ add-one m

      entered_task : HeldAt p plan k (m + 1) with_task n
      unfolding ticks_on
      entered_task =
          let place : m + 1 - 1 ≡ m = omega arith in
          let rooms = columns.places in
          rw (
            at_end kept.numbers number rooms.of_numbers,
            at_end kept.periods period rooms.of_periods,
            at_end kept.windows its_window rooms.of_windows,
            at_end kept.ticks its_ticks rooms.of_ticks,
            at_end kept.powers power rooms.of_powers,
            is_number,
          )
          record {
            above_0 = omega arith;
            at_most = omega arith;
            is_kept = rw place is_kept;
            same_period = rw place is_period;
            same_window = rw place is_window;
            same_ticks = rw (place, is_kept) are_ticks;
            same_power = rw place is_power;
          }

      held_before : (j : ℕ) → j < n → HeldAt p plan k (m + 1) with_task j
      held_before j l =
          rw (
            before kept.numbers number j l,
            before kept.periods period j l,
            before kept.windows its_window j l,
            before kept.ticks its_ticks j l,
            before kept.powers power j l,
          ) (one_task_more (columns.held j l))

      pub entered : KeptColumns p plan k (m + 1) with_task
      entered = record {
        places = record {
          of_numbers = length-set kept.numbers n number ∙ columns.places.of_numbers;
          of_periods = length-set kept.periods n period ∙ columns.places.of_periods;
          of_windows = length-set kept.windows n its_window ∙ columns.places.of_windows;
          of_ticks = length-set kept.ticks n its_ticks ∙ columns.places.of_ticks;
          of_powers = length-set kept.powers n power ∙ columns.places.of_powers;
        };
        no_more = omega (arith, columns.no_more);
        ascending = λ i j l b.
            below_suc (λ j. i < j → get_or (set kept.numbers n number) i 0 < get_or (set kept.numbers n number) j 0) n
            (λ j b l. rw (before kept.numbers number i (omega arith), before kept.numbers number j b) (columns.ascending i j l b))
            (λ l. rw (before kept.numbers number i l, number_at_end) (omega (arith, (columns.held i l).at_most)))
            j (omega arith) l;
        held = λ j l. below_suc (HeldAt p plan k (m + 1) with_task) n held_before entered_task j (omega arith);
        every_kept = λ i l its.
            below_suc (λ i. keeps p plan k i ≡ true → (j : ℕ) × (j < n + 1) × (get_or (set kept.numbers n number) j 0 ≡ suc i)) m
            (λ i l its. let at = columns.every_kept i l its in (at.0, omega (arith, at.1), before kept.numbers number at.0 at.1 ∙ at.2))
            (λ its. (n, omega arith, number_at_end)) i (omega arith) its;
      }
