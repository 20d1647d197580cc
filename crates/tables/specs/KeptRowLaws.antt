-- The columns of a core's kept tasks are fit for a row, and their row is the core's.
use Rattle.std.specs.Prelude.{ℕ, ◌≤◌, ◌<◌, List, ◌≡◌, length, take}
use Rattle.std.proofs.Common.{sym, ◌∙◌, le_trans, arith, length-take-le}
use Rattle.std.proofs.Math.ListN.{get_or}
use Rattle.std.proofs.Math.Seq.{get_or-take}
use Rattle.ranges.specs.Limits.{most_tasks}
use Rattle.instance.specs.Node.{Problem, task_count, task_at}
use Rattle.instance.specs.Valid.{Valid}
use Rattle.dispatch.specs.Columns.{ColumnsOk, column_row, column_tasks}
use Rattle.dispatch.specs.Rows.{CoreTasks, row}
use Rattle.dispatch.specs.SelectedTasks.{Selected, row_of_selected}
use Rattle.plan_rules.specs.KeptColumns.{KeptColumns, place_of}
use Rattle.plan_rules.specs.Windows.{window}
use Rattle.plan_rules.specs.KeepsLaws.{kept_where_ticks}
use Rattle.plan_rules.specs.CoreOfPlan.{core_tasks}
use Rattle.plan_rules.specs.declared.columns.KeptTasks.{KeptTasks}
use Rattle.plan_rules.specs.KeptColumnLaws.{is_task}

module _ (p : Problem) (v : Valid p) (plan : List ℕ) (k : ℕ) (kept : KeptTasks)
    (columns : KeptColumns p plan k (task_count p) kept) where
  abbrev n : ℕ
  n = kept.count

  places_enough : n ≤ most_tasks
  places_enough = omega (arith, columns.no_more, v.task_count_bound)

  pub length_front : (xs : List ℕ) → length xs ≡ most_tasks → length (take n xs) ≡ n
  length_front xs long = length-take-le n xs (omega (arith, places_enough))

  -- the columns that the row is given
  abbrev row_columns : CoreTasks
  row_columns = column_tasks (take n kept.periods) (take n kept.windows) (take n kept.ticks)

  is_held : (j : ℕ) → j < row_columns.size → j < n
  is_held j l = omega (arith, length_front kept.ticks columns.places.of_ticks)

  pub columns_ok : ColumnsOk (take n kept.numbers) (take n kept.periods) (take n kept.windows) (take n kept.ticks)
  columns_ok =
      let of_periods = length_front kept.periods columns.places.of_periods in
      let period : (i : ℕ) → i < n → get_or (take n kept.periods) i 0 ≡ (task_at p (place_of kept i)).period =
      λ i l. get_or-take n kept.periods i 0 l ∙ (columns.held i l).same_period in
      let its_window : (i : ℕ) → i < n → get_or (take n kept.windows) i 0 ≡ window (task_at p (place_of kept i)) =
      λ i l. get_or-take n kept.windows i 0 l ∙ (columns.held i l).same_window in
      record {
        few_tasks = omega (arith, of_periods, places_enough);
        one_number_each = length_front kept.numbers columns.places.of_numbers ∙ sym of_periods;
        one_job_each = length_front kept.ticks columns.places.of_ticks ∙ sym of_periods;
        dues_ok = record {
          one_window_each = length_front kept.windows columns.places.of_windows ∙ sym of_periods;
          periods_ok = record {
            above_0 = λ i l. let j = rw of_periods at l in rw (period i j) (v.task (place_of kept i) (is_task p plan k kept columns i j)).period.at_least;
          };
          window_bounded = λ i l.
              let j = rw of_periods at l in
              let its_task = v.task (place_of kept i) (is_task p plan k kept columns i j) in
              rw (its_window i j) (le_trans its_task.deadline.at_most its_task.period.at_most);
        };
      }

  pub kept_are_selected : Selected (core_tasks p plan k) row_columns (λ j. place_of kept j)
  unfolding core_tasks
  kept_are_selected = record {
    is_task = λ j l. is_task p plan k kept columns j (is_held j l);
    ascending = λ i j before l.
        let m = is_held j l in
        omega (arith, columns.ascending i j before m, (columns.held i (omega arith)).above_0, (columns.held j m).above_0);
    same_period = λ j l. get_or-take n kept.periods j 0 (is_held j l) ∙ (columns.held j (is_held j l)).same_period;
    same_window = λ j l. get_or-take n kept.windows j 0 (is_held j l) ∙ (columns.held j (is_held j l)).same_window;
    same_ticks = λ j l. get_or-take n kept.ticks j 0 (is_held j l) ∙ (columns.held j (is_held j l)).same_ticks;
    every_task = λ i l some.
        let at = columns.every_kept i l (kept_where_ticks p plan k i some) in
        (at.0, omega (arith, at.1, length_front kept.ticks columns.places.of_ticks), omega (arith, at.2));
  }

  pub row_of_columns : (room : ℕ) →
      column_row (take n kept.numbers) (take n kept.periods) (take n kept.windows) (take n kept.ticks) room ≡ row (core_tasks p plan k) room
  unfolding column_row
  row_of_columns room =
      row_of_selected (core_tasks p plan k) row_columns (λ j. place_of kept j) kept_are_selected (λ j. get_or (take n kept.numbers) j 0)
      (λ j l. get_or-take n kept.numbers j 0 (is_held j l) ∙ omega (arith, (columns.held j (is_held j l)).above_0)) room
