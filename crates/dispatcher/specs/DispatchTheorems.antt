-- Document 02 (f) as theorems about what the calls answer, for a core of a plan that 7 and 8 let pass.
use Rattle.refusals.specs.Refusals.{accepted}
use Rattle.std.specs.Prelude.{ℕ, pred, ◌%◌, ◌≤◌, ◌<◌, Bool, false, List, ◌≡◌, Ok}
use Rattle.std.proofs.Common.{sym, ap, ◌∙◌, mod-lt}
use Rattle.instance.specs.Node.{Problem, span, task_count}
use Rattle.instance.specs.SiteFile.{problem_of}
use Rattle.instance.specs.SiteFileLaws.{accepted_is_valid}
use Rattle.dispatch.specs.Rows.{CoreTasks}
use Rattle.edf.specs.CallTheorems.{calls_answer_the_row, calls_finish_every_job, calls_give_no_more_than_ticks, calls_give_none_after_due, calls_give_none_after_report}
use Rattle.edf.specs.Demand.{NoSlotAfterDue, slots_of_job}
use Rattle.edf.specs.FinishedJobs.{Finished, NoneAfterReport}
use Rattle.plan_rules.specs.CoreOfPlan.{core_tasks}
use Rattle.plan_rules.specs.Plans.{plan_passes}
use Rattle.drawings.specs.FitLaws.{passing_core_meets_demand, periods_whole, windows_well_formed}
use Rattle.tables.specs.Periods.{Periodic, valid_is_periodic}
use Rattle.tables.specs.TableLaws.{slot_at-table_of}
use Rattle.tables.specs.Tables.{slot_at, table_of}
use Rattle.dispatcher.specs.CallSequenceLaws.{answers_of_tasks, core_is_one, next_state_passes, unreported_are_accepted, unreported_call_accepts}
use Rattle.dispatcher.specs.CallSequences.{call_at, answers_of, AllAccepted}
use Rattle.dispatcher.specs.Outcomes.{core_passes, dispatch_outcome}
use Rattle.dispatcher.specs.States.{state_passes}
use Rattle.dispatcher.specs.declared.DispatchState.{DispatchState}

-- what is promised of each job j of task i, however late its release: it is finished by its deadline, whether by its ticks or by a
-- report, and it never ran more than its ticks, outside its window or after it was reported ended
pub record JobServed (tasks : CoreTasks) (answers : ℕ → ℕ) (reports : ℕ → Bool) (i j : ℕ) : Type 0 where
  pub finished : Finished tasks answers reports i j
  pub no_more_than_ticks : slots_of_job answers tasks i j ≤ tasks.ticks i
  pub none_after_due : NoSlotAfterDue answers tasks i j
  pub none_after_report : NoneAfterReport tasks answers reports i j

module _ (words plan : List ℕ) (core : ℕ) (p : Problem) (read : problem_of words ≡ Ok p) (passes : plan_passes p plan ≡ accepted)
    (inside : core_passes p core ≡ accepted) where
  abbrev tasks : CoreTasks
  tasks = core_tasks p plan (pred core)

  periodic : Periodic p
  periodic = valid_is_periodic (accepted_is_valid words read)

  -- "From a fresh start .. without such reports it answers slot after slot of the row, for ever."
  pub answers_are_the_row : (reports : ℕ → Bool) → ((n : ℕ) → reports n ≡ false) → (n : ℕ) →
      ((call_at words plan core reports n).verdict ≡ accepted)
      × ((call_at words plan core reports n).task ≡ slot_at p (table_of p plan) (pred core) (n % span p))
  answers_are_the_row reports none n =
      let all = unreported_are_accepted words plan core p read reports passes inside none in (
        all n,
        ap (λ (answers : ℕ → ℕ). answers n) (answers_of_tasks words plan core p read reports all)
            ∙ calls_answer_the_row tasks (span p) reports (periods_whole p periodic plan (pred core)) none n
            ∙ sym (slot_at-table_of p plan (pred core) (n % span p) (core_is_one p core inside) (mod-lt n periodic.span_positive)),
      )

  -- "From that start, with any accepted reports, every job is still finished by its deadline."
  pub every_job_is_served : (reports : ℕ → Bool) → AllAccepted words plan core reports → (i j : ℕ) → i < task_count p →
      JobServed tasks (answers_of words plan core reports) reports i j
  unfolding core_tasks
  every_job_is_served reports all i j l =
      let whole = periods_whole p periodic plan (pred core) in
      let wf = windows_well_formed p periodic plan (pred core) in
      let demand = passing_core_meets_demand p periodic plan passes (pred core) (core_is_one p core inside) in
      rw (answers_of_tasks words plan core p read reports all)
      (record {
        finished = calls_finish_every_job tasks (span p) reports whole wf demand i j l;
        no_more_than_ticks = calls_give_no_more_than_ticks tasks (span p) reports whole wf demand i j l;
        none_after_due = calls_give_none_after_due tasks (span p) reports whole wf demand i j l;
        none_after_report = calls_give_none_after_report tasks (span p) reports whole i j l;
      })

  -- from any accepted state the next state passes the tests of 12 again, and so the next call without a report is accepted
  pub next_state_is_accepted : (s : DispatchState) (ended : Bool) → (dispatch_outcome words plan core s ended).verdict ≡ accepted →
      let next = (dispatch_outcome words plan core s ended).state in
      (state_passes tasks (span p) next ≡ accepted) × ((dispatch_outcome words plan core next false).verdict ≡ accepted)
  next_state_is_accepted s ended accepts =
      let passes_12 = next_state_passes words plan core p read s ended accepts in
      (passes_12, unreported_call_accepts words plan core p read passes inside (dispatch_outcome words plan core s ended).state passes_12)
