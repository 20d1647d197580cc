-- Document 02 (f) as theorems, for any number of tasks on a core and any windows 1 ≤ d ≤ p. Their words are defined in `Calls`, `Rows`,
-- `Demand` and `FinishedJobs`.
use Rattle.std.specs.Prelude.{ℕ, suc, ◌+◌, ◌*◌, ◌%◌, ◌≤◌, ◌<◌, Bool, false, ◌≡◌, eqb}
use Rattle.laws.specs.Search.{count}
use Rattle.dispatch.specs.Calls.{answered}
use Rattle.dispatch.specs.Rows.{CoreTasks, slot_of}
use Rattle.edf.specs.CallJobLaws.{job_finished, no_more_than_its_ticks, no_tick_after_due, runs_no_more, nothing_left_when_full}
use Rattle.edf.specs.CallRowLaws.{answers_are_row}
use Rattle.edf.specs.CallRunLaws.{left_before}
use Rattle.edf.specs.Demand.{WellFormed, WholePeriods, Demand, NoSlotAfterDue, slots_of_job}
use Rattle.edf.specs.FinishedJobs.{Finished, NoneAfterReport}

-- "From a fresh start .. without such reports it answers slot after slot of the row, for ever."
pub calls_answer_the_row : (core : CoreTasks) (span : ℕ) (reports : ℕ → Bool) → WholePeriods core span → ((n : ℕ) → reports n ≡ false) →
    (n : ℕ) → answered core span reports n ≡ slot_of core (n % span)
calls_answer_the_row core span reports whole none n = answers_are_row core span reports whole none n

-- "From that start, with any accepted reports, every job is still finished by its deadline": here with any reports, since one after
-- an idle tick changes nothing.
pub calls_finish_every_job : (core : CoreTasks) (span : ℕ) (reports : ℕ → Bool) → WholePeriods core span → WellFormed core → Demand core →
    (i j : ℕ) → i < core.size → Finished core (answered core span reports) reports i j
calls_finish_every_job core span reports whole wf demand i j l = job_finished core span reports whole wf demand i j l

-- No job is given more than its ticks, ..
pub calls_give_no_more_than_ticks : (core : CoreTasks) (span : ℕ) (reports : ℕ → Bool) → WholePeriods core span → WellFormed core → Demand core →
    (i j : ℕ) → i < core.size → slots_of_job (answered core span reports) core i j ≤ core.ticks i
calls_give_no_more_than_ticks core span reports whole wf demand i j l = no_more_than_its_ticks core span reports whole wf demand i j l

-- .. and none outside its window.
pub calls_give_none_after_due : (core : CoreTasks) (span : ℕ) (reports : ℕ → Bool) → WholePeriods core span → WellFormed core → Demand core →
    (i j : ℕ) → i < core.size → NoSlotAfterDue (answered core span reports) core i j
calls_give_none_after_due core span reports whole wf demand i j l = no_tick_after_due core span reports whole wf demand i j l

-- A job that was reported ended runs no more.
pub calls_give_none_after_report : (core : CoreTasks) (span : ℕ) (reports : ℕ → Bool) → WholePeriods core span → (i j : ℕ) → i < core.size →
    NoneAfterReport core (answered core span reports) reports i j
calls_give_none_after_report core span reports whole i j l = runs_no_more core span reports whole i j l

-- A job that was given all its ticks has nothing left.
pub full_job_has_nothing_left : (core : CoreTasks) (span : ℕ) (reports : ℕ → Bool) → WholePeriods core span → (i j x : ℕ) → i < core.size →
    x < core.period i → answered core span reports (j * core.period i + x) ≡ suc i →
    count (λ y. eqb (answered core span reports (j * core.period i + y)) (suc i)) (suc x) ≡ core.ticks i →
    left_before core span reports (suc (j * core.period i + x)) i ≡ 0
full_job_has_nothing_left core span reports whole i j x l h runs full = nothing_left_when_full core span reports whole i j l x h runs full
