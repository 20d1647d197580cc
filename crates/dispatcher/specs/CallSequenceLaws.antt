-- Calls one after another are those of the core's tasks, as long as none is refused.
use Prim.Native.Nat.{ℕ, zero, suc, pred, ◌≤◌, ◌<◌}
use Rattle.std.specs.Prelude.{Bool, true, false, cond, ◌&&◌, List, ◌≡◌, leb, ltb, Ok, Err}
use Rattle.std.proofs.Math.Path.{refl, sym, ap}
use Rattle.std.proofs.Common.{◌∙◌, lt_of_lt_of_le, arith}
use Rattle.std.proofs.Math.ListN.{get_or, get_or-replicate}
use borrow.Author.Tests.{leb-true, ltb-true, ne_eqb}
use Rattle.laws.specs.JoinedLaws.{get_d-list_of}
use Rattle.laws.specs.Truth.{and_is_true}
use Rattle.ranges.specs.Limits.{most_tasks}
use Rattle.dispatch.specs.CallLaws.{call_same}
use Rattle.dispatch.specs.Calls.{call, called, answered}
use Rattle.dispatch.specs.Rows.{CoreTasks, Dispatch, start}
use Rattle.edf.specs.CallRunLaws.{left_before}
use Rattle.instance.specs.Node.{Problem, span}
use Rattle.instance.specs.SiteFile.{problem_of}
use Rattle.instance.specs.SiteFileLaws.{accepted_is_valid}
use Rattle.instance.specs.SpanLaws.{span_above_zero}
use Rattle.plan_rules.specs.CoreOfPlan.{core_tasks}
use Rattle.plan_rules.specs.Plans.{plan_passes}
use Rattle.refusals.specs.VerdictLaws.{and_then-accepts, refused_not_accepted}
use Rattle.refusals.specs.declared.Refusal.TheVariants.{CoreOrState}
use Rattle.refusals.specs.Refusals.{Verdict, accepted}
use Rattle.dispatcher.specs.CallSequences.{state_before, call_at, answers_of, AllAccepted}
use Rattle.dispatcher.specs.NextStateLaws.{next_state_fits}
use Rattle.dispatcher.specs.Outcomes.{core_passes, dispatch_outcome, dispatch_tests}
use Rattle.dispatcher.specs.StateLaws.{state_fits_iff}
use Rattle.dispatcher.specs.States.{as_dispatch, as_state, dispatched_where, fresh_state, state_fits, state_passes, end_passes}
use Rattle.dispatcher.specs.declared.DispatchState.{DispatchState}
use Rattle.dispatcher.specs.declared.Dispatched.{Dispatched}

state_passes_lem : (core : CoreTasks) (its_span : ℕ) (s : DispatchState) → state_passes core its_span s ≡ accepted → state_fits core its_span s ≡ true
unfolding state_passes
state_passes_lem core its_span s = go (state_fits core its_span s)
  where
    go : (fits : Bool) → cond fits accepted (Err CoreOrState) ≡ accepted → fits ≡ true
    go true e = refl
    go false e = absurd (refused_not_accepted CoreOrState e)

pub fitting_state_passes : (core : CoreTasks) (its_span : ℕ) (s : DispatchState) → state_fits core its_span s ≡ true → state_passes core its_span s ≡ accepted
unfolding state_passes
fitting_state_passes core its_span s fits = rw fits

pub core_is_one : (p : Problem) (core : ℕ) → core_passes p core ≡ accepted → pred core < p.cores
unfolding core_passes
core_is_one p core = go (ltb 0 core && leb core p.cores) refl
  where
    go : (within : Bool) → ltb 0 core && leb core p.cores ≡ within → cond within accepted (Err CoreOrState) ≡ accepted → pred core < p.cores
    go true e accepts =
        let both = (and_is_true (ltb 0 core) (leb core p.cores)).0 e in
        omega (arith, ltb-true 0 core both.0, leb-true core p.cores both.1)
    go false e accepts = absurd (refused_not_accepted CoreOrState accepts)

-- "tick 0, no ticks left, last task 0"
fresh_state_fits : (core : CoreTasks) (its_span : ℕ) → 0 < its_span → state_fits core its_span fresh_state ≡ true
fresh_state_fits core its_span above =
    (state_fits_iff core its_span fresh_state).1
    (record {
      tick_below = above;
      left_at_most = λ i l. rw (get_or-replicate {A = ℕ} most_tasks i 0 0 l) (omega arith);
      last_has_ticks = λ some. absurd (some refl);
    })

-- a verdict that is Accepted tells the whole outcome
accepted_where : (v : Verdict) (core : CoreTasks) (its_span : ℕ) (s : DispatchState) (ended : Bool) →
    (dispatched_where v core its_span s ended).verdict ≡ accepted → v ≡ accepted
accepted_where (Ok tt) core its_span s ended e = refl
accepted_where (Err r) core its_span s ended e = absurd (refused_not_accepted r e)

module _ (words plan : List ℕ) (core : ℕ) (p : Problem) (read : problem_of words ≡ Ok p) where
  abbrev tasks : CoreTasks
  tasks = core_tasks p plan (pred core)

  few_tasks : tasks.size ≤ most_tasks
  unfolding core_tasks
  few_tasks = (accepted_is_valid words read).task_count_bound

  module _ (s : DispatchState) (ended : Bool) where
    pub call_accepts : (dispatch_outcome words plan core s ended).verdict ≡ accepted → dispatch_tests p plan core s ended ≡ accepted
    unfolding dispatch_outcome
    call_accepts accepts = accepted_where (dispatch_tests p plan core s ended) tasks (span p) s ended (rw read at accepts)

    pub accepted_call : dispatch_tests p plan core s ended ≡ accepted → dispatch_outcome words plan core s ended ≡ dispatched_where accepted tasks (span p) s ended
    unfolding dispatch_outcome
    accepted_call tests = rw (read, tests) refl

    pub tested_state_passes : dispatch_tests p plan core s ended ≡ accepted → state_passes tasks (span p) s ≡ accepted
    tested_state_passes tests =
        let after_plan = ((and_then-accepts (plan_passes p plan) _).0 tests).1 in
        let after_core = ((and_then-accepts (core_passes p core) _).0 after_plan).1 in
        ((and_then-accepts (state_passes tasks (span p) s) (end_passes s ended)).0 after_core).0

    tests_of_state : dispatch_tests p plan core s ended ≡ accepted → state_fits tasks (span p) s ≡ true
    tests_of_state tests = state_passes_lem tasks (span p) s (tested_state_passes tests)

    -- from any accepted state the next one passes the tests of 12 again
    pub next_state_passes : (dispatch_outcome words plan core s ended).verdict ≡ accepted →
        state_passes tasks (span p) (dispatch_outcome words plan core s ended).state ≡ accepted
    next_state_passes accepts =
        let tests = call_accepts accepts in
        rw (accepted_call tests)
        (fitting_state_passes tasks (span p) _ (next_state_fits tasks few_tasks (span p) s ended (tests_of_state tests)))

  module _ (passes : plan_passes p plan ≡ accepted) (inside : core_passes p core ≡ accepted) (s : DispatchState) where
    -- a call without a report is accepted where its state is
    pub unreported_tests : state_passes tasks (span p) s ≡ accepted → dispatch_tests p plan core s false ≡ accepted
    unfolding end_passes
    unreported_tests fits = rw (passes, inside, fits) refl

    -- and so is a call with a report after a tick in which a task ran
    pub reported_tests : (i : ℕ) → s.last ≡ suc i → state_passes tasks (span p) s ≡ accepted → dispatch_tests p plan core s true ≡ accepted
    unfolding end_passes
    reported_tests i ran fits = rw (passes, inside, fits, ran, ne_eqb (suc i) 0 (λ e. omega arith)) refl

    pub unreported_call_accepts : state_passes tasks (span p) s ≡ accepted → (dispatch_outcome words plan core s false).verdict ≡ accepted
    unreported_call_accepts fits = ap (λ (d : Dispatched). d.verdict) (accepted_call s false (unreported_tests fits))

  module _ (reports : ℕ → Bool) where
    -- the calls are those of the core's tasks
    module _ (all : AllAccepted words plan core reports) where
      abbrev state : ℕ → DispatchState
      state n = state_before words plan core reports n

      answer_of_call : (n : ℕ) → call_at words plan core reports n ≡ dispatched_where accepted tasks (span p) (state n) (reports n)
      answer_of_call n = accepted_call (state n) (reports n) (call_accepts (state n) (reports n) (all n))

      same_called : (n : ℕ) → call tasks (span p) (reports n) (as_dispatch (state n)) ≡ called tasks (span p) reports (suc n)
      unfolding state_before called
      same_called zero =
          call_same tasks (span p) (reports 0) (as_dispatch fresh_state) (start tasks) refl refl
          (λ i l. get_or-replicate most_tasks i 0 0 (lt_of_lt_of_le l few_tasks) ∙ sym (get_or-replicate tasks.size i 0 0 l))
      same_called (suc n) =
          let before : Dispatch = called tasks (span p) reports (suc n) in
          let same : state (suc n) ≡ as_state before =
          ap (λ (d : Dispatched). d.state) (answer_of_call n) ∙ ap as_state (same_called n) in
          ap (λ (s : DispatchState). call tasks (span p) (reports (suc n)) (as_dispatch s)) same
          ∙ call_same tasks (span p) (reports (suc n)) (as_dispatch (as_state before)) before refl refl
          (λ i l. get_d-list_of (λ i. get_or before.left i 0) most_tasks i 0 (lt_of_lt_of_le l few_tasks))

      -- after a call the state is that of the core's tasks
      pub state_after_call : (n : ℕ) → state (suc n) ≡ as_state (called tasks (span p) reports (suc n))
      unfolding state_before
      state_after_call n = ap (λ (d : Dispatched). d.state) (answer_of_call n) ∙ ap as_state (same_called n)

      pub left_before_call : (n i : ℕ) → i < tasks.size → get_or (state (suc n)).left i 0 ≡ left_before tasks (span p) reports (suc n) i
      unfolding left_before
      left_before_call n i l =
          ap (λ (s : DispatchState). get_or s.left i 0) (state_after_call n)
          ∙ get_d-list_of (λ i. get_or (called tasks (span p) reports (suc n)).left i 0) most_tasks i 0 (lt_of_lt_of_le l few_tasks)

      pub answers_of_tasks : answers_of words plan core reports ≡ answered tasks (span p) reports
      answers_of_tasks =
          let each : (n : ℕ) → answers_of words plan core reports n ≡ answered tasks (span p) reports n =
          λ n. ap (λ (d : Dispatched). d.task) (answer_of_call n) ∙ ap (λ (d : Dispatch). d.last) (same_called n) in
          λ i n. each n i

    module _ (passes : plan_passes p plan ≡ accepted) (inside : core_passes p core ≡ accepted) (none : (n : ℕ) → reports n ≡ false) where
      accepts_where : (n : ℕ) → state_passes tasks (span p) (state_before words plan core reports n) ≡ accepted →
          (call_at words plan core reports n).verdict ≡ accepted
      accepts_where n fits = rw (none n) (unreported_call_accepts passes inside (state_before words plan core reports n) fits)

      states_pass : (n : ℕ) → state_passes tasks (span p) (state_before words plan core reports n) ≡ accepted
      unfolding state_before
      states_pass zero = fitting_state_passes tasks (span p) fresh_state (fresh_state_fits tasks (span p) (span_above_zero (accepted_is_valid words read)))
      states_pass (suc n) = next_state_passes (state_before words plan core reports n) (reports n) (accepts_where n (states_pass n))

      -- from a fresh start no call without a report is refused
      pub unreported_are_accepted : AllAccepted words plan core reports
      unreported_are_accepted n = accepts_where n (states_pass n)
