-- Preparing a core and a tick over it are the dispatcher's call.
use Rattle.refusals.specs.declared.Refusal.{Refusal}
use Rattle.std.specs.Prelude.{ℕ, pred, ◌-◌, ◌≤◌, ◌<◌, Bool, List, ◌≡◌, length, get_or, take, Result, Ok, Err}
use Rattle.std.proofs.Math.Bool.{true, false}
use Rattle.std.proofs.Math.Path.{refl}
use Rattle.std.proofs.Common.{sym, ap, ◌∙◌, arith, get_or-take, le-leb}
use Rattle.std.proofs.Math.Nat.{le_refl}
use Rattle.ranges.specs.Limits.{most_tasks}
use Rattle.dispatch.specs.Columns.{column_tasks}
use Rattle.dispatch.specs.Rows.{CoreTasks}
use Rattle.instance.specs.Node.{Problem, span, task_count}
use Rattle.instance.specs.SiteFile.{problem_of}
use Rattle.instance.specs.SiteFileLaws.{accepted_is_valid}
use Rattle.instance.specs.Valid.{Valid}
use Rattle.plan_rules.specs.CoreOfPlan.{core_tasks}
use Rattle.plan_rules.specs.KeptColumns.{KeptColumns, place_of}
use Rattle.plan_rules.specs.declared.columns.KeptTasks.{KeptTasks}
use Rattle.plan_rules.specs.Plans.{plan_passes}
use Rattle.refusals.specs.Refusals.{Reading, ◌and_then◌, Verdict, accepted, verdict_of}
use Rattle.tables.specs.KeptRowLaws.{columns_ok, kept_are_selected, length_front}
use Rattle.dispatcher.specs.AdvanceLaws.{columns_are_selected}
use Rattle.dispatcher.specs.ColumnLaws.{CoreColumns, core_columns_fit}
use Rattle.dispatcher.specs.Columns.{columns_pass, numbered_tasks}
use Rattle.dispatcher.specs.Outcomes.{core_passes, dispatch_outcome, dispatch_outcome_of, dispatch_tests, preparing_tests}
use Rattle.dispatcher.specs.Preparing.{Prepares, core_outcome, prepared_outcome, core_of, HoldsCore}
use Rattle.dispatcher.specs.SameCoreLaws.{SameCore, same_answer, same_next_state, same_selected_same_core, same_state_fits}
use Rattle.dispatcher.specs.StateLaws.{FittingState, state_fits_iff}
use Rattle.dispatcher.specs.States.{call_passes, dispatched_where, state_fits, state_passes, end_passes}
use Rattle.dispatcher.specs.declared.DispatchState.{DispatchState}
use Rattle.dispatcher.specs.declared.preparing.PreparedCore.{PreparedCore}

-- two cores that have the same tasks with ticks turn the same calls away, and answer the others alike
module _ (core core₂ : CoreTasks) (same : SameCore core core₂) (few : core.size ≤ most_tasks) (few₂ : core₂.size ≤ most_tasks) (its_span : ℕ)
    (s : DispatchState) (ended : Bool) where
  same_call : (v : Verdict) → FittingState core its_span s → dispatched_where v core its_span s ended ≡ dispatched_where v core₂ its_span s ended
  same_call (Err r) fit = refl
  same_call (Ok tt) fit =
      let answer = same_answer core core₂ same few few₂ its_span s ended fit in
      let state = same_next_state core core₂ same few few₂ its_span s ended fit in
      λ i. record { verdict = accepted; task = answer i; state = state i }

  same_dispatched :
      dispatched_where (call_passes core its_span s ended) core its_span s ended
      ≡ dispatched_where (call_passes core₂ its_span s ended) core₂ its_span s ended
  unfolding state_passes
  same_dispatched = go (state_fits core its_span s) refl (sym (same_state_fits core core₂ same its_span s))
    where
      go : (fits : Bool) → state_fits core its_span s ≡ fits → state_fits core₂ its_span s ≡ state_fits core its_span s →
          dispatched_where (call_passes core its_span s ended) core its_span s ended
          ≡ dispatched_where (call_passes core₂ its_span s ended) core₂ its_span s ended
      go true e e₂ = rw (e₂, e) (same_call (end_passes s ended) ((state_fits_iff core its_span s).0 e))
      go false e e₂ = rw (e₂, e) refl

module _ (p : Problem) (v : Valid p) (plan : List ℕ) (k : ℕ) (kept : KeptTasks) (columns : KeptColumns p plan k (task_count p) kept) where
  abbrev n : ℕ
  n = kept.count

  -- the columns of the kept tasks are those of a core ..
  are_columns : CoreColumns (take n kept.numbers) (take n kept.periods) (take n kept.windows) (take n kept.ticks)
  are_columns =
      let ok = columns_ok p v plan k kept columns in
      let of_numbers = length_front p v plan k kept columns kept.numbers columns.places.of_numbers in
      let number : (j : ℕ) → j < n → get_or (take n kept.numbers) j 0 ≡ get_or kept.numbers j 0 = λ j l. get_or-take n kept.numbers j 0 l in
      record {
        numbers_rise = record {
          above_0 = λ j l. let m = rw of_numbers at l in rw (number j m) (columns.held j m).above_0;
          at_most = λ j l. let m = rw of_numbers at l in omega (arith, number j m, (columns.held j m).at_most, v.task_count_bound);
          rising = λ i j before l.
              let m = rw of_numbers at l in omega (arith, number i (omega arith), number j m, columns.ascending i j before m);
        };
        one_period_each = sym ok.one_number_each;
        one_window_each = ok.dues_ok.one_window_each ∙ sym ok.one_number_each;
        one_job_each = ok.one_job_each ∙ sym ok.one_number_each;
        period_above_0 = λ j l. ok.dues_ok.periods_ok.above_0 j (omega (arith, ok.one_number_each));
      }

  abbrev in_columns : CoreTasks
  in_columns = numbered_tasks (take n kept.numbers) (take n kept.periods) (take n kept.windows) (take n kept.ticks)

  -- .. whose tasks with ticks are the core's
  same_core : SameCore (core_tasks p plan k) in_columns
  same_core =
      same_selected_same_core (core_tasks p plan k) in_columns
      (column_tasks (take n kept.periods) (take n kept.windows) (take n kept.ticks))
      (λ j. place_of kept j)
      _
      (λ j l. ap (λ (number : ℕ). number - 1) (sym (get_or-take n kept.numbers j 0 (is_held j l))))
      (kept_are_selected p v plan k kept columns)
      (columns_are_selected _ _ _ _ are_columns)
    where
      is_held : (j : ℕ) → j < length (take n kept.ticks) → j < n
      is_held j l = omega (arith, length_front p v plan k kept columns kept.ticks columns.places.of_ticks)

  few_tasks : (core_tasks p plan k).size ≤ most_tasks
  unfolding core_tasks
  few_tasks = v.task_count_bound

  few_places : in_columns.size ≤ most_tasks
  unfolding numbered_tasks
  few_places = le_refl most_tasks

  pub kept_columns_dispatch : (s : DispatchState) (ended : Bool) →
      dispatched_where (call_passes (core_tasks p plan k) (span p) s ended) (core_tasks p plan k) (span p) s ended
      ≡ core_outcome (core_of (span p) kept) s ended
  unfolding core_outcome columns_pass
  kept_columns_dispatch s ended =
      rw (le-leb n most_tasks (omega (arith, columns.no_more, v.task_count_bound)), core_columns_fit are_columns)
      (same_dispatched (core_tasks p plan k) in_columns same_core few_tasks few_places (span p) s ended)

-- the tests of preparing, then those of a tick
tests_in_two : (p : Problem) (plan : List ℕ) (core : ℕ) (s : DispatchState) (ended : Bool) →
    dispatch_tests p plan core s ended ≡ preparing_tests p plan core and_then call_passes (core_tasks p plan (pred core)) (span p) s ended
tests_in_two p plan core s ended = go (plan_passes p plan)
  where
    go : (v : Verdict) → v and_then core_passes p core and_then call_passes (core_tasks p plan (pred core)) (span p) s ended
        ≡ (v and_then core_passes p core) and_then call_passes (core_tasks p plan (pred core)) (span p) s ended
    go (Ok tt) = refl
    go (Err r) = refl

-- the call is the two together
module _ (words plan : List ℕ) (core : ℕ) (prepared : Result PreparedCore Refusal) (prepares : Prepares words plan core prepared) (s : DispatchState) (ended : Bool) where
  pub call_is_preparing_and_tick : dispatch_outcome words plan core s ended ≡ prepared_outcome prepared s ended
  unfolding dispatch_outcome
  call_is_preparing_and_tick = go (problem_of words) refl
    where
      tested : (p : Problem) → problem_of words ≡ Ok p → (c : Result PreparedCore Refusal) → prepared ≡ c → preparing_tests p plan core ≡ verdict_of c →
          dispatch_outcome_of (Ok p) plan core s ended ≡ prepared_outcome c s ended
      tested p read (Err r) is tests = rw (tests_in_two p plan core s ended, tests) refl
      tested p read (Ok c) is tests =
          let holds : HoldsCore p plan (pred core) c = rw is at (prepares.holds_core p read) in
          rw (tests_in_two p plan core s ended, tests, holds.is_core)
          (kept_columns_dispatch p (accepted_is_valid words read) plan (pred core) holds.kept holds.its_columns s ended)

      refused : (r : Refusal) → (c : Result PreparedCore Refusal) → verdict_of c ≡ Err r → dispatch_outcome_of (Err r) plan core s ended ≡ prepared_outcome c s ended
      refused r (Err q) same = let e : q ≡ r = cc in rw e refl
      refused r (Ok c) same = let z : ◌≡◌ {A = ℕ} 0 1 = cc in absurd (omega arith)

      go : (reading : Reading Problem) → problem_of words ≡ reading → dispatch_outcome_of (problem_of words) plan core s ended ≡ prepared_outcome prepared s ended
      go (Err r) read = rw read (refused r prepared (rw read at prepares.as_tested))
      go (Ok p) read = rw read (tested p read prepared refl (sym (rw read at prepares.as_tested)))
