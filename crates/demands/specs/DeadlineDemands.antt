-- Document 02 (c), "Deadlines before the period's end": what is promised of due ticks, of cores that fit, and of slots after a due
-- tick. Which words write deadlines is a part of demand 1, and what a job is given before its due tick of demands 2 and 3.
use Rattle.std.specs.Prelude.{ℕ, ◌+◌, ◌/◌, ◌≤◌, ◌<◌, true, List, ◌↔◌, ◌≡◌, refl, Ok}
use Rattle.refusals.specs.Refusals.{accepted}
use Rattle.instance.specs.Node.{Problem, task_count, task_at, span}
use Rattle.instance.specs.SiteFile.{problem_of}
use Rattle.instance.specs.SiteFileLaws.{accepted_is_valid}
use Rattle.instance.specs.Valid.{DueAtPeriodEnd}
use Rattle.dispatch.specs.Rows.{due_at}
use Rattle.plan_rules.specs.CoreOfPlan.{core_tasks}
use Rattle.plan_rules.specs.FitLaws.{fits_iff_load}
use Rattle.plan_rules.specs.Plans.{fits}
use Rattle.plan_rules.specs.Quantities.{choice_at, core_of, jobs, core_load}
use Rattle.plan_rules.specs.Windows.{release_of, due_of}
use Rattle.tables.specs.Periods.{valid_is_periodic}
use Rattle.tables.specs.Tables.{slot_at}
use Rattle.checks.specs.CheckLaws.{jobs_pass-iff}
use Rattle.checks.specs.Checks.{jobs_pass}
use Rattle.drawings.specs.DrawingLaws.{no_late_slots}
use Rattle.drawings.specs.FitLaws.{core_fits_iff_served}
use Rattle.drawings.specs.ServedRows.{NoneLate, RowServes}

pub record DeadlinesKept (p : Problem) : Type 0 where
  -- "The due tick is release plus deadline everywhere": in drawings and in the check's windows ..
  pub due_tick : (i j : ℕ) → due_of p i j ≡ release_of p i j + (task_at p i).deadline
  -- .. and in rows, at tick t that of the job released last
  pub due_tick_in_rows : (plan : List ℕ) (k i t : ℕ) → due_at (core_tasks p plan k) t i ≡ due_of p i (t / (task_at p i).period)
  -- "A core fits exactly when some row gives each job its ticks in time": 8 and 5 are by this
  pub core_fits : (plan : List ℕ) (k : ℕ) → (fits p plan k ≡ true) ↔ ((slots : ℕ → ℕ) × RowServes p plan k slots)
  -- where "deadline equals period", document 01's "A core fits when its kept tasks' jobs × ticks add up to at most L"
  pub core_fits_by_load : DueAtPeriodEnd p.tasks → (plan : List ℕ) (k : ℕ) → (fits p plan k ≡ true) ↔ (core_load p plan k ≤ span p)
  -- "A task's slot between a due tick and its next release counts as one too many under 10": no table with one passes that test
  pub no_late_slot_passes : (plan table : List ℕ) → jobs_pass p plan table ≡ accepted →
      (i j : ℕ) → i < task_count p → (choice_at plan i ≡ 0 → ⊥) → j < jobs p i → NoneLate p (slot_at p table (core_of p plan i)) i j

pub deadlines_are_kept : (words : List ℕ) (p : Problem) → problem_of words ≡ Ok p → DeadlinesKept p
unfolding due_at core_tasks
deadlines_are_kept words p read =
    let valid = accepted_is_valid words read in
    let periodic = valid_is_periodic valid in
    record {
      due_tick = λ i j. refl;
      due_tick_in_rows = λ plan k i t. refl;
      core_fits = core_fits_iff_served p periodic;
      core_fits_by_load = λ due plan k. fits_iff_load p valid plan k due.each;
      no_late_slot_passes = λ plan table passes i j is_task kept is_job.
          let served = (jobs_pass-iff p plan table).0 passes i j is_task kept is_job in
          (no_late_slots p periodic plan table i j is_task).0 served.none_late;
    }
