-- What one tick over columns comes to is a call for the core whose tasks they are.
use Rattle.refusals.specs.Refusals.{accepted}
use Prim.Native.Nat.{ℕ, suc, ◌-◌, ◌≤◌, ◌<◌}
use Rattle.std.specs.Prelude.{Bool, cond, List, IfSome, ◌⊎◌, ◌≡◌, eqb}
use Rattle.std.proofs.Common.{inl, inr, ◌∙◌}
use Rattle.std.proofs.Math.Path.{refl, sym, ap, ap₂}
use Rattle.std.proofs.Math.Nat.{lt_of_lt_of_le}
use native.Mathlib.Omega.{arith}
use Rattle.std.proofs.Math.ListN.{length, get_or}
use Rattle.laws.specs.Below.{lt_or_le}
use Rattle.laws.specs.JoinedLaws.{list_of-same}
use Rattle.laws.specs.Lists.{list_of}
use Rattle.ranges.specs.Limits.{most_tasks}
use Rattle.dispatch.specs.CallLaws.{ready_for, ready_for_at_most, call_answers_choice, call_leaves}
use Rattle.dispatch.specs.Calls.{ended_early, wrapped, call}
use Rattle.dispatch.specs.Chosen.{chosen_below, number_of}
use Rattle.dispatch.specs.Columns.{column_tasks, due_in}
use Rattle.dispatch.specs.Earliest.{Choice, choice_unique, chosen_has_left, chosen_le_size, earliest_is_choice}
use Rattle.dispatch.specs.Rows.{CoreTasks, due_at, after_release, after_run, earliest, step}
use Rattle.dispatch.specs.SelectedTasks.{Selected, choice_of_all, numbered, numbered_same}
use Rattle.dispatcher.specs.ColumnLaws.{CoreColumns, column_of_number, nothing_beyond, number_of_column}
use Rattle.dispatcher.specs.Columns.{column_of, numbered_tasks}
use Rattle.dispatcher.specs.Places.{place_of, place_within, placed_at, kept_elsewhere}
use Rattle.dispatcher.specs.StateLaws.{FittingState, ticks_of_task}
use Rattle.dispatcher.specs.States.{as_dispatch, dispatched_where}
use Rattle.dispatcher.specs.Ticks.{ChosenColumn, ready_in}
use Rattle.dispatcher.specs.declared.DispatchState.{DispatchState}
use Rattle.dispatcher.specs.declared.ticks.Chosen.{Chosen}

module _ (numbers periods windows ticks : List ℕ) (columns : CoreColumns numbers periods windows ticks) where
  abbrev core : CoreTasks
  core = numbered_tasks numbers periods windows ticks

  abbrev in_columns : CoreTasks
  in_columns = column_tasks periods windows ticks

  number_at : (j : ℕ) → j < length numbers → suc (place_of numbers j) ≡ get_or numbers j 0
  number_at j l = omega (arith, columns.numbers_rise.above_0 j l)

  column_at_place : (j : ℕ) → j < length numbers → column_of numbers (place_of numbers j) ≡ j
  column_at_place j l = column_of_number numbers columns.numbers_rise (place_of numbers j) j l (sym (number_at j l))

  is_column : (j : ℕ) → j < in_columns.size → j < length numbers
  is_column j l = omega (arith, columns.one_job_each)

  pub columns_are_selected : Selected core in_columns (place_of numbers)
  unfolding numbered_tasks
  columns_are_selected = record {
    is_task = λ j l. place_within numbers columns.numbers_rise j (is_column j l);
    ascending = λ i j before l.
        let m = is_column j l in
        omega (arith, columns.numbers_rise.rising i j before m, number_at i (omega arith), number_at j m);
    same_period = λ j l. ap (λ (k : ℕ). get_or periods k 0) (sym (column_at_place j (is_column j l)));
    same_window = λ j l. ap (λ (k : ℕ). get_or windows k 0) (sym (column_at_place j (is_column j l)));
    same_ticks = λ j l. ap (λ (k : ℕ). get_or ticks k 0) (sym (column_at_place j (is_column j l)));
    every_task = λ i l some. go i some (lt_or_le (column_of numbers i) (length numbers));
  }
    where
      go : (i : ℕ) → 0 < get_or ticks (column_of numbers i) 0 → (column_of numbers i < length numbers) ⊎ (length numbers ≤ column_of numbers i) →
          (j : ℕ) × (j < length ticks) × (place_of numbers j ≡ i)
      go i some (inl found) = (column_of numbers i, omega (arith, columns.one_job_each), omega (arith, number_of_column numbers i found))
      go i some (inr beyond) = absurd (omega (arith, nothing_beyond numbers ticks i columns.one_job_each beyond))

  module _ (span : ℕ) (s : DispatchState) (ended : Bool) (fit : FittingState core span s) where
    left_at_most : (i : ℕ) → i < most_tasks → get_or s.left i 0 ≤ core.ticks i
    unfolding numbered_tasks
    left_at_most i l = rw (ticks_of_task core i l) at (fit.left_at_most i l)

    -- what a column's task has left when the call chooses
    ready_in_column : (j : ℕ) → j < length numbers →
        ready_in numbers periods ticks s ended j ≡ ready_for core ended (as_dispatch s) (place_of numbers j)
    unfolding numbered_tasks ready_for after_release
    ready_in_column j l = rw (column_at_place j l) refl

    module _ (chosen : Chosen) (chooses : ChosenColumn numbers periods windows ticks s ended chosen) where
      -- a task without a column has nothing left
      nothing_elsewhere : (i : ℕ) → i < most_tasks → length numbers ≤ column_of numbers i → get_or chosen.left i 0 ≡ ready_for core ended (as_dispatch s) i
      unfolding numbered_tasks
      nothing_elsewhere i l beyond =
          omega (
            arith,
            kept_elsewhere numbers _ s.left columns.numbers_rise chosen.left chooses.released i beyond,
            left_at_most i l,
            ready_for_at_most core ended (as_dispatch s) i (left_at_most i l),
            nothing_beyond numbers ticks i columns.one_job_each beyond,
          )

      -- every place holds what its task has left when the call chooses
      ready_at : (i : ℕ) → i < most_tasks → get_or chosen.left i 0 ≡ ready_for core ended (as_dispatch s) i
      ready_at i l = go (lt_or_le (column_of numbers i) (length numbers))
        where
          go : (column_of numbers i < length numbers) ⊎ (length numbers ≤ column_of numbers i) →
              get_or chosen.left i 0 ≡ ready_for core ended (as_dispatch s) i
          go (inl found) =
              let here : place_of numbers (column_of numbers i) ≡ i = omega (arith, number_of_column numbers i found) in
              placed_at numbers _ s.left columns.numbers_rise chosen.left chooses.released i found
              ∙ ready_in_column (column_of numbers i) found
              ∙ ap (ready_for core ended (as_dispatch s)) here
          go (inr beyond) = nothing_elsewhere i l beyond

      chosen_column : Choice (due_at in_columns s.tick) (ready_in numbers periods ticks s ended) in_columns.size (number_of chosen.column)
      unfolding due_at
      chosen_column =
          rw (chooses.is_earliest ∙ ap (earliest (due_in periods windows s.tick) (ready_in numbers periods ticks s ended)) (sym columns.one_job_each))
          (earliest_is_choice _ _ (length ticks))

      column_within : number_of chosen.column ≤ length numbers
      column_within = omega (arith, chosen_le_size chosen_column, columns.one_job_each)

      pub column_is_one : IfSome chosen.column (λ j. j < length numbers)
      column_is_one = chosen_below chosen.column (length numbers) column_within

      pub column_is_answer : numbered (λ j. get_or numbers j 0) (number_of chosen.column) ≡ (call core span ended (as_dispatch s)).last
      unfolding numbered_tasks
      column_is_answer =
          sym (numbered_same (λ j. suc (place_of numbers j)) (λ j. get_or numbers j 0) (length numbers) number_at (number_of chosen.column) column_within)
          ∙ choice_unique
          (choice_of_all core in_columns (place_of numbers) columns_are_selected s.tick (ready_for core ended (as_dispatch s)) _
          (λ j l. ready_in_column j (is_column j l))
          (λ i l some. lt_of_lt_of_le some (ready_for_at_most core ended (as_dispatch s) i (left_at_most i l)))
          chosen_column)
          (call_answers_choice core span ended (as_dispatch s))

      module _ (task : ℕ) (is_number : task ≡ numbered (λ j. get_or numbers j 0) (number_of chosen.column)) where
        is_answer : task ≡ (call core span ended (as_dispatch s)).last
        is_answer = is_number ∙ column_is_answer

        pub task_has_place : task ≤ most_tasks
        unfolding numbered_tasks
        task_has_place = rw is_answer (chosen_le_size (call_answers_choice core span ended (as_dispatch s)))

        pub task_has_left : 0 < task → 0 < get_or chosen.left (task - 1) 0
        task_has_left above =
            let named : (call core span ended (as_dispatch s)).last ≡ suc (task - 1) = omega (arith, is_answer) in
            rw (ready_at (task - 1) (omega (arith, task_has_place))) (chosen_has_left (task - 1) (call_answers_choice core span ended (as_dispatch s)) named)

        -- what is then handed over is what the call answers
        pub advanced : (tick : ℕ) (left : List ℕ) → tick ≡ cond (eqb (suc s.tick) span) 0 (suc s.tick) →
            left ≡ list_of (λ i. after_run task i (get_or chosen.left i 0)) most_tasks →
            record { verdict = accepted; task = task; state = record { tick = tick; left = left; last = task } }
            ≡ dispatched_where accepted core span s ended
        unfolding numbered_tasks call wrapped step ended_early
        advanced tick left next ran =
            let same_left : left ≡ list_of (λ i. get_or (call core span ended (as_dispatch s)).left i 0) most_tasks =
            ran
            ∙ list_of-same _ _ most_tasks (λ i l.
            ap₂ (λ (number before : ℕ). after_run number i before) is_answer (ready_at i l)
            ∙ sym (call_leaves core span ended (as_dispatch s) i l)) in
            λ i. record { verdict = accepted; task = is_answer i; state = record { tick = next i; left = same_left i; last = is_answer i } }
