-- Document 02 (f), "A dispatcher on the node": what is promised of calls one after another, for a core of a plan that 7 and 8 let
-- pass. How a single call ends is a part of demand 1. What it answers, and the next state, is `dispatch_outcome` of crate `dispatcher`:
-- the step that rows are made of, with the early end before it and the wrap after it.
use Rattle.std.specs.Prelude.{ℕ, suc, pred, ◌+◌, ◌-◌, ◌/◌, ◌%◌, ◌≤◌, ◌<◌, Bool, true, false, cond, ◌&&◌, List, ◌⊎◌, ◌≡◌, refl, eqb, get_or, Result, Ok}
use Rattle.std.proofs.Math.Logic.{inl, inr}
use Rattle.std.proofs.Common.{ap, ◌∙◌, lt_of_lt_of_le}
use native.Mathlib.Omega.{arith}
use Rattle.laws.specs.JoinedLaws.{get_d-list_of}
use Rattle.laws.specs.Search.{count}
use Rattle.ranges.specs.Limits.{most_tasks}
use Rattle.refusals.specs.Refusals.{accepted}
use Rattle.refusals.specs.declared.Refusal.{Refusal}
use Rattle.dispatch.specs.CallLaws.{ready_for, call_answers_choice, call_leaves}
use Rattle.dispatch.specs.Calls.{after_end, call, ended_early, wrapped}
use Rattle.dispatch.specs.Earliest.{Choice}
use Rattle.dispatch.specs.Rows.{after_release, after_run, due_at, step}
use Rattle.instance.specs.Node.{Problem, task_count, task_at, span}
use Rattle.instance.specs.SiteFile.{problem_of}
use Rattle.instance.specs.SiteFileLaws.{accepted_is_valid}
use Rattle.text.specs.Text.{words_of}
use Rattle.plan_rules.specs.CoreOfPlan.{core_tasks}
use Rattle.plan_rules.specs.Plans.{plan_passes}
use Rattle.plan_rules.specs.Quantities.{ticks_on}
use Rattle.plan_rules.specs.Windows.{release_of, due_of, window}
use Rattle.tables.specs.Tables.{slot_at, table_of}
use Rattle.drawings.specs.ServedRows.{NoneLate}
use Rattle.edf.specs.FinishedJobs.{Finished, ran_in_full, ended_by_report}
use Rattle.dispatcher.specs.CallSequenceLaws.{accepted_call, call_accepts}
use Rattle.dispatcher.specs.CallSequences.{call_at, answers_of, state_before, AllAccepted}
use Rattle.dispatcher.specs.DispatchTheorems.{JobServed, answers_are_the_row, every_job_is_served, next_state_is_accepted}
use Rattle.dispatcher.specs.Outcomes.{core_passes, dispatch_outcome}
use Rattle.dispatcher.specs.PreparedLaws.{call_is_preparing_and_tick}
use Rattle.dispatcher.specs.Preparing.{Prepares, prepared_outcome}
use Rattle.dispatcher.specs.ReportTheorems.{full_job_unaffected, report_has_no_effect}
use Rattle.dispatcher.specs.States.{as_dispatch, state_passes}
use Rattle.dispatcher.specs.declared.DispatchState.{DispatchState}
use Rattle.dispatcher.specs.declared.Dispatched.{Dispatched}
use Rattle.dispatcher.specs.declared.preparing.PreparedCore.{PreparedCore}
use Rattle.towhepamu.specs.CallOutcomes.{text_dispatch_outcome}

-- in how many ticks of its window the calls answer job j of task i
abbrev ticks_run : Problem → (answers : ℕ → ℕ) → ℕ → ℕ → ℕ
ticks_run p answers i j = count (λ x. eqb (answers (release_of p i j + x)) (suc i)) (window (task_at p i))

-- in how many of the first n ticks from its release the calls answer job j of task i
abbrev ticks_run_within : Problem → (answers : ℕ → ℕ) → (i j n : ℕ) → ℕ
ticks_run_within p answers i j n = count (λ x. eqb (answers (release_of p i j + x)) (suc i)) n

-- a tick in which job j of task i runs and after which, in the next call and before its due tick, it is reported ended
pub record ReportedEnded (p : Problem) (answers : ℕ → ℕ) (reports : ℕ → Bool) (i j : ℕ) : Type 0 where
  pub tick : ℕ
  pub released : release_of p i j ≤ tick
  pub runs : answers tick ≡ suc i
  pub before_due : suc tick < due_of p i j
  pub reported : reports (suc tick) ≡ true

-- what the calls made of job j of task i on core k, counted from 0
pub record JobDispatched (p : Problem) (plan : List ℕ) (k : ℕ) (answers : ℕ → ℕ) (reports : ℕ → Bool) (i j : ℕ) : Type 0 where
  pub finished : (ticks_run p answers i j ≡ ticks_on p plan k i) ⊎ ReportedEnded p answers reports i j
  pub no_more_than_ticks : ticks_run p answers i j ≤ ticks_on p plan k i
  pub none_late : NoneLate p answers i j
  -- once it ran in tick t and was reported ended in the next call, it runs in no tick up to the next release of its task
  pub none_after_report : (t : ℕ) → release_of p i j ≤ t → answers t ≡ suc i → reports (suc t) ≡ true →
      (later : ℕ) → t < later → later < release_of p i (suc j) → answers later ≡ suc i → ⊥

-- the ticks left of task i when a call chooses, in state s on core k: a job that ran in the tick before and is reported ended has none; "At
-- a release a task's ticks left become its job's full ticks."
abbrev ticks_ready : Problem → (plan : List ℕ) → ℕ → DispatchState → Bool → ℕ → ℕ
ticks_ready p plan k s ended i =
    cond (eqb (s.tick % (task_at p i).period) 0) (ticks_on p plan k i) (cond (ended && eqb (suc i) s.last) 0 (get_or s.left i 0))

-- when the job of task i that was released last by tick t is due
abbrev latest_due : Problem → ℕ → ℕ → ℕ
latest_due p t i = due_of p i (t / (task_at p i).period)

-- what a call that is not refused answers, in state s
pub record CallAnswers (p : Problem) (plan : List ℕ) (k : ℕ) (s : DispatchState) (ended : Bool) (d : Dispatched) : Type 0 where
  -- "of the tasks with ticks left, the one whose latest job is due first runs, of equal ones the lower number"
  pub earliest_due : Choice (latest_due p s.tick) (ticks_ready p plan k s ended) (task_count p) d.task
  -- "its ticks left fall by one"
  pub ticks_left : (i : ℕ) → i < task_count p →
      let ready = ticks_ready p plan k s ended i in get_or d.state.left i 0 ≡ cond (eqb (suc i) d.task) (pred ready) ready
  -- "after the span's last tick comes 0"
  pub next_tick : d.state.tick ≡ cond (eqb (suc s.tick) (span p)) 0 (suc s.tick)
  pub last_task : d.state.last ≡ d.task

-- of one core
pub record DispatchesCore (words : List ℕ) (p : Problem) (plan : List ℕ) (core : ℕ) : Type 0 where
  -- "From a fresh start .. without such reports it answers slot after slot of the row, for ever": call n, counted from 0
  pub answers_the_row : (reports : ℕ → Bool) → ((n : ℕ) → reports n ≡ false) → (n : ℕ) →
      ((call_at words plan core reports n).verdict ≡ accepted)
      × ((call_at words plan core reports n).task ≡ slot_at p (table_of p plan) (pred core) (n % span p))
  -- "From that start, with any accepted reports, every job is still finished by its deadline", however late its release
  pub every_job_is_finished : (reports : ℕ → Bool) → AllAccepted words plan core reports → (i j : ℕ) → i < task_count p →
      JobDispatched p plan (pred core) (answers_of words plan core reports) reports i j
  -- a report "has no effect if that job had its full ticks": call for call, where the job was given all its ticks ..
  pub full_job_unaffected : (reports : ℕ → Bool) → AllAccepted words plan core reports → (i j x : ℕ) → i < task_count p → x < (task_at p i).period →
      let answers = answers_of words plan core reports in
      answers (release_of p i j + x) ≡ suc i → ticks_run_within p answers i j (suc x) ≡ ticks_on p plan (pred core) i →
      let s = state_before words plan core reports (suc (release_of p i j + x)) in
      dispatch_outcome words plan core s true ≡ dispatch_outcome words plan core s false
  -- .. and from any state in which the task that ran has nothing left
  pub report_without_effect : (s : DispatchState) → (dispatch_outcome words plan core s true).verdict ≡ accepted →
      get_or s.left (pred s.last) 0 ≡ 0 → dispatch_outcome words plan core s true ≡ dispatch_outcome words plan core s false
  -- from any state that is accepted the call answers the earliest due of the tasks with ticks left
  pub call_answers : (s : DispatchState) (ended : Bool) → (dispatch_outcome words plan core s ended).verdict ≡ accepted →
      CallAnswers p plan (pred core) s ended (dispatch_outcome words plan core s ended)
  -- from any state that is accepted the next one passes the tests of 12 again, and a call without a report is accepted
  pub next_state_is_accepted : (s : DispatchState) (ended : Bool) → (dispatch_outcome words plan core s ended).verdict ≡ accepted →
      let next = (dispatch_outcome words plan core s ended).state in
      (state_passes (core_tasks p plan (pred core)) (span p) next ≡ accepted) × ((dispatch_outcome words plan core next false).verdict ≡ accepted)

pub record DispatcherExact (words : List ℕ) (p : Problem) : Type 0 where
  -- "For one core of an accepted, fitting plan"
  pub each_core : (plan : List ℕ) (core : ℕ) → plan_passes p plan ≡ accepted → core_passes p core ≡ accepted → DispatchesCore words p plan core
  -- the call is the core prepared once, and a tick over it
  pub prepared_once : (plan : List ℕ) (core : ℕ) (prepared : Result PreparedCore Refusal) → Prepares words plan core prepared →
      (s : DispatchState) (ended : Bool) → dispatch_outcome words plan core s ended ≡ prepared_outcome prepared s ended
  -- all of this holds of the call from C for a text of these words
  pub from_text : (text : List ℕ) → words_of text ≡ Ok words → (plan : List ℕ) (core : ℕ) (s : DispatchState) (ended : Bool) →
      text_dispatch_outcome text plan core s ended ≡ dispatch_outcome words plan core s ended

module _ (p : Problem) (plan : List ℕ) (k : ℕ) (answers : ℕ → ℕ) (reports : ℕ → Bool) (i j : ℕ) where
  finished_in_time : Finished (core_tasks p plan k) answers reports i j →
      (ticks_run p answers i j ≡ ticks_on p plan k i) ⊎ ReportedEnded p answers reports i j
  unfolding core_tasks
  finished_in_time (ran_in_full all) = inl all
  finished_in_time (ended_by_report x before runs reported) =
      inr (record { tick = release_of p i j + x; released = omega arith; runs = runs; before_due = omega arith; reported = reported })

  job_dispatched : JobServed (core_tasks p plan k) answers reports i j → JobDispatched p plan k answers reports i j
  unfolding core_tasks
  job_dispatched served =
      record {
        finished = finished_in_time served.finished;
        no_more_than_ticks = served.no_more_than_ticks;
        none_late = λ t due next shown.
            let here : release_of p i j + (t - release_of p i j) ≡ t = omega arith in
            served.none_after_due (t - release_of p i j) (omega arith) (omega arith) (ap answers here ∙ shown);
        none_after_report = λ t from ran reported later after before runs.
            let here : release_of p i j + (t - release_of p i j) ≡ t = omega arith in
            let there : release_of p i j + (later - release_of p i j) ≡ later = omega arith in
            served.none_after_report (t - release_of p i j) (ap answers here ∙ ran) (ap (λ (n : ℕ). reports (suc n)) here ∙ reported)
            (later - release_of p i j) (omega arith) (omega arith) (ap answers there ∙ runs);
      }

module _ (words : List ℕ) (p : Problem) (read : problem_of words ≡ Ok p) (plan : List ℕ) (core : ℕ) (s : DispatchState) (ended : Bool) where
  accepted_call_answers : (dispatch_outcome words plan core s ended).verdict ≡ accepted →
      CallAnswers p plan (pred core) s ended (dispatch_outcome words plan core s ended)
  unfolding call wrapped step ended_early ready_for after_release after_end after_run due_at core_tasks
  accepted_call_answers accepts =
      rw (accepted_call words plan core p read s ended (call_accepts words plan core p read s ended accepts))
      (record {
        earliest_due = call_answers_choice (core_tasks p plan (pred core)) (span p) ended (as_dispatch s);
        ticks_left = λ i is_task.
            get_d-list_of _ most_tasks i 0 (lt_of_lt_of_le is_task (accepted_is_valid words read).task_count_bound)
            ∙ call_leaves (core_tasks p plan (pred core)) (span p) ended (as_dispatch s) i is_task;
        next_tick = refl;
        last_task = refl;
      })

pub dispatcher_is_exact : (words : List ℕ) (p : Problem) → problem_of words ≡ Ok p → DispatcherExact words p
unfolding text_dispatch_outcome core_tasks
dispatcher_is_exact words p read =
    record {
      each_core = λ plan core passes inside.
          record {
            answers_the_row = answers_are_the_row words plan core p read passes inside;
            every_job_is_finished = λ reports all i j is_task.
                job_dispatched p plan (pred core) _ reports i j (every_job_is_served words plan core p read passes inside reports all i j is_task);
            full_job_unaffected = full_job_unaffected words plan core p read passes inside;
            report_without_effect = report_has_no_effect words plan core p read passes inside;
            call_answers = accepted_call_answers words p read plan core;
            next_state_is_accepted = next_state_is_accepted words plan core p read passes inside;
          };
      prepared_once = call_is_preparing_and_tick words;
      from_text = λ text e plan core s ended. rw e refl;
    }
