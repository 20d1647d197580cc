-- A report "has no effect if that job had its full ticks", for a core of a plan that 7 and 8 let pass.
use Rattle.refusals.specs.Refusals.{accepted}
use Prim.Native.Nat.{ℕ, suc, pred, ◌+◌, ◌*◌, ◌<◌}
use Rattle.std.specs.Prelude.{Bool, true, false, List, ◌≡◌, eqb, Ok}
use Rattle.std.proofs.Math.Path.{sym, ap}
use Rattle.std.proofs.Common.{◌∙◌}
use Rattle.std.proofs.Math.ListN.{get_or}
use Rattle.laws.specs.Search.{count}
use Rattle.instance.specs.Node.{Problem, span, task_count}
use Rattle.instance.specs.SiteFile.{problem_of}
use Rattle.instance.specs.SiteFileLaws.{accepted_is_valid}
use Rattle.dispatch.specs.CallLaws.{report_without_effect}
use Rattle.dispatch.specs.Rows.{CoreTasks, Dispatch}
use Rattle.edf.specs.CallTheorems.{full_job_has_nothing_left}
use Rattle.plan_rules.specs.CoreOfPlan.{core_tasks}
use Rattle.plan_rules.specs.Plans.{plan_passes}
use Rattle.drawings.specs.FitLaws.{periods_whole}
use Rattle.tables.specs.Periods.{valid_is_periodic}
use Rattle.dispatcher.specs.CallSequenceLaws.{accepted_call, answers_of_tasks, call_accepts, left_before_call, next_state_passes, reported_tests, state_after_call, tested_state_passes, unreported_tests}
use Rattle.dispatcher.specs.CallSequences.{answers_of, state_before, AllAccepted}
use Rattle.dispatcher.specs.Outcomes.{core_passes, dispatch_outcome, dispatch_tests}
use Rattle.dispatcher.specs.States.{as_dispatch, as_state}
use Rattle.dispatcher.specs.declared.DispatchState.{DispatchState}
use Rattle.dispatcher.specs.declared.Dispatched.{Dispatched}

module _ (words plan : List ℕ) (core : ℕ) (p : Problem) (read : problem_of words ≡ Ok p) (passes : plan_passes p plan ≡ accepted)
    (inside : core_passes p core ≡ accepted) where
  abbrev tasks : CoreTasks
  tasks = core_tasks p plan (pred core)

  same_outcomes : (s : DispatchState) → dispatch_tests p plan core s true ≡ accepted → get_or s.left (pred s.last) 0 ≡ 0 →
      dispatch_outcome words plan core s true ≡ dispatch_outcome words plan core s false
  same_outcomes s tests none =
      let unreported = unreported_tests words plan core p read passes inside s (tested_state_passes words plan core p read s true tests) in
      let after : Dispatch → Dispatched = λ d. record { verdict = accepted; task = d.last; state = as_state d } in
      accepted_call words plan core p read s true tests
      ∙ ap after (report_without_effect tasks (span p) (as_dispatch s) none)
      ∙ sym (accepted_call words plan core p read s false unreported)

  -- in any state in which the task that ran has nothing left
  pub report_has_no_effect : (s : DispatchState) → (dispatch_outcome words plan core s true).verdict ≡ accepted →
      get_or s.left (pred s.last) 0 ≡ 0 → dispatch_outcome words plan core s true ≡ dispatch_outcome words plan core s false
  report_has_no_effect s accepts = same_outcomes s (call_accepts words plan core p read s true accepts)

  -- which is so in calls one after another where its job was given all its ticks
  module _ (reports : ℕ → Bool) (all : AllAccepted words plan core reports) (i j x : ℕ) (is_task : i < task_count p) where
    abbrev answers : ℕ → ℕ
    answers = answers_of words plan core reports

    -- the call in which the job ran last
    abbrev n : ℕ
    n = j * tasks.period i + x

    pub full_job_unaffected : x < tasks.period i → answers n ≡ suc i →
        count (λ y. eqb (answers (j * tasks.period i + y)) (suc i)) (suc x) ≡ tasks.ticks i →
        let s = state_before words plan core reports (suc n) in dispatch_outcome words plan core s true ≡ dispatch_outcome words plan core s false
    unfolding core_tasks state_before
    full_job_unaffected h runs full =
        let s = state_before words plan core reports (suc n) in
        let same = answers_of_tasks words plan core p read reports all in
        let its_last : s.last ≡ suc i
        = ap (λ (s : DispatchState). s.last) (state_after_call words plan core p read reports all n)
        ∙ sym (ap (λ (f : ℕ → ℕ). f n) same) ∙ runs in
        let whole = periods_whole p (valid_is_periodic (accepted_is_valid words read)) plan (pred core) in
        let none_left : get_or s.left i 0 ≡ 0
        = left_before_call words plan core p read reports all n i is_task
        ∙ full_job_has_nothing_left tasks (span p) reports whole i j x is_task h (rw same at runs) (rw same at full) in
        same_outcomes s
        (reported_tests words plan core p read passes inside s i its_last
        (next_state_passes words plan core p read (state_before words plan core reports n) (reports n) (all n)))
        (rw its_last none_left)
