-- A core fits exactly when some row serves its jobs, and a plan passes exactly when some table makes it a drawing.
use Rattle.refusals.specs.Refusals.{accepted}
use Rattle.std.specs.Prelude.{ℕ, ◌+◌, ◌-◌, ◌<◌, true, List, ◌↔◌, ◌≡◌}
use Rattle.std.proofs.Math.Bool.{not}
use Rattle.std.proofs.Math.Logic.{⊎_elim, inl, inr}
use Rattle.std.proofs.Math.Path.{ap}
use Rattle.std.proofs.Common.{◌∙◌}
use native.Mathlib.Omega.{arith}
use borrow.Author.Tests.{not-false}
use Rattle.instance.specs.Node.{Problem, span}
use Rattle.plan_rules.specs.AllowedPlanLaws.{choices_pass-iff}
use Rattle.drawings.specs.CheckTheorem.{check_accepts_exactly_drawings, tabulated_table_passes}
use Rattle.checks.specs.Checks.{check}
use Rattle.edf.specs.Demand.{WellFormed, WholePeriods, Demand, NamesTask, Serves}
use Rattle.drawings.specs.Drawings.{Drawing}
use Rattle.tables.specs.Periods.{Periodic}
use Rattle.plan_rules.specs.Plans.{choices_pass, fits, cores_fit, plan_passes}
use Rattle.plan_rules.specs.Quantities.{jobs}
use Rattle.dispatch.specs.Rows.{slot_of}
use Rattle.edf.specs.SchedulingTheorems.{edf_serves_every_job, edf_no_slot_after_due, edf_slots_name_tasks_with_ticks, one_span_decides_demand, served_meets_demand}
use Rattle.drawings.specs.ServedRowLaws.{drawing_serves_cores}
use Rattle.drawings.specs.ServedRows.{OwedSlot, RowServes}
use Rattle.plan_rules.specs.CoreOfPlan.{core_tasks}
use Rattle.plan_rules.specs.Windows.{release_of}
use Rattle.tables.specs.Tables.{table_of, slot_at}
use Rattle.refusals.specs.VerdictLaws.{and_then-accepts, none_refused}

-- the tasks of a core as the scheduling theorems have them
module _ (p : Problem) (periodic : Periodic p) (plan : List ℕ) (k : ℕ) where
  pub windows_well_formed : WellFormed (core_tasks p plan k)
  unfolding core_tasks
  windows_well_formed =
      record { window_above_0 = periodic.window_above_0; window_within_period = periodic.window_within_period }

  pub periods_whole : WholePeriods (core_tasks p plan k) (span p)
  unfolding core_tasks
  periods_whole = record { span_above_0 = periodic.span_positive; period_divides = periodic.period_divides_span }

  pub row_serves_core_tasks : (slots : ℕ → ℕ) → RowServes p plan k slots → Serves slots (span p) (core_tasks p plan k)
  unfolding core_tasks jobs
  row_serves_core_tasks slots serves = record { each_job = serves.each_job }

  named_task_is_owed : {slot : ℕ} → NamesTask (core_tasks p plan k) slot → OwedSlot p plan k slot
  unfolding core_tasks
  named_task_is_owed s =
      record { task = s.task; is_task = s.is_task; its_number = s.its_number; has_ticks = s.has_ticks }

  edf_row_serves : Demand (core_tasks p plan k) → RowServes p plan k (slot_of (core_tasks p plan k))
  unfolding core_tasks
  edf_row_serves demand =
      let core = core_tasks p plan k in
      record {
        each_job = λ i j h l. edf_serves_every_job core windows_well_formed demand i j h;
        idle_or_owed = λ t h.
            ⊎_elim (λ idle. inl idle) (λ s. inr (named_task_is_owed s)) (edf_slots_name_tasks_with_ticks core t);
        none_late = λ i j h l t due next shown.
            let here : release_of p i j + (t - release_of p i j) ≡ t = omega arith in
            edf_no_slot_after_due core windows_well_formed demand i j h (t - release_of p i j) (omega arith) (omega arith)
            (ap (slot_of core) here ∙ shown);
      }

  demand_of_served_row : (slots : ℕ → ℕ) → RowServes p plan k slots → Demand (core_tasks p plan k)
  demand_of_served_row slots serves =
      served_meets_demand (core_tasks p plan k) (span p) slots windows_well_formed periods_whole (row_serves_core_tasks slots serves)

  -- where some row serves a core, however it was drawn, earliest deadline first serves it
  pub edf_serves_if_any_row_does : (slots : ℕ → ℕ) → RowServes p plan k slots → RowServes p plan k (slot_of (core_tasks p plan k))
  edf_serves_if_any_row_does slots serves = edf_row_serves (demand_of_served_row slots serves)

  pub core_fits_iff_demand_is_met : (fits p plan k ≡ true) ↔ Demand (core_tasks p plan k)
  unfolding fits
  core_fits_iff_demand_is_met = one_span_decides_demand (core_tasks p plan k) (span p) windows_well_formed periods_whole

  -- (c) "A core fits exactly when some row gives each job its ticks in time"
  pub core_fits_iff_served : (fits p plan k ≡ true) ↔ ((slots : ℕ → ℕ) × RowServes p plan k slots)
  core_fits_iff_served = (
    λ fit. (slot_of (core_tasks p plan k), edf_row_serves (core_fits_iff_demand_is_met.0 fit)),
    λ served. core_fits_iff_demand_is_met.1 (demand_of_served_row served.0 served.1),
  )

module _ (p : Problem) (plan : List ℕ) where
  cores_fit_iff : (cores_fit p plan ≡ accepted) ↔ ((k : ℕ) → k < p.cores → fits p plan k ≡ true)
  unfolding cores_fit
  cores_fit_iff = (
    λ e k h. not-false _ ((none_refused _ _ _).0 e k h),
    λ fit. (none_refused _ _ _).1 (λ k h. ap not (fit k h)),
  )

  passing_core_fits : plan_passes p plan ≡ accepted → (k : ℕ) → k < p.cores → fits p plan k ≡ true
  unfolding plan_passes
  passing_core_fits passes = cores_fit_iff.0 ((and_then-accepts (choices_pass p plan) _).0 passes).1

module _ (p : Problem) (periodic : Periodic p) (plan : List ℕ) where
  pub passing_core_meets_demand : plan_passes p plan ≡ accepted → (k : ℕ) → k < p.cores → Demand (core_tasks p plan k)
  passing_core_meets_demand passes k h = (core_fits_iff_demand_is_met p periodic plan k).0 (passing_core_fits p plan passes k h)

  pub passing_table_passes : plan_passes p plan ≡ accepted → check p plan (table_of p plan) ≡ accepted
  passing_table_passes passes =
      tabulated_table_passes p periodic plan passes (λ k h.
      let served = (core_fits_iff_served p periodic plan k).0 (passing_core_fits p plan passes k h) in
      edf_serves_if_any_row_does p periodic plan k served.0 served.1)

  -- the plan of a drawing passes ..
  pub drawn_plan_passes : {table : List ℕ} → Drawing p plan table → plan_passes p plan ≡ accepted
  unfolding plan_passes
  drawn_plan_passes {table} d =
      (and_then-accepts _ _).1 (
        (choices_pass-iff p plan).1 d.allowed,
        (cores_fit_iff p plan).1 (λ k h.
            (core_fits_iff_served p periodic plan k).1 (slot_at p table k, drawing_serves_cores p periodic plan table d k h)),
      )

  -- .. and every plan that passes has a drawing: with its own table
  pub passing_plan_is_drawn : plan_passes p plan ≡ accepted → Drawing p plan (table_of p plan)
  passing_plan_is_drawn passes =
      (check_accepts_exactly_drawings p periodic plan (table_of p plan)).0 (passing_table_passes passes)
