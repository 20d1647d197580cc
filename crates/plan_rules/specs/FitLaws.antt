-- When a core of a valid problem fits.
use Rattle.std.specs.Prelude.{ℕ, ◌≤◌, ◌<◌, true, List, ◌↔◌, ◌≡◌, refl}
use Rattle.instance.specs.Node.{Problem, task_at, task_count, span}
use Rattle.instance.specs.SpanLaws.{span_above_zero, period_divides_span}
use Rattle.instance.specs.Valid.{Valid}
use Rattle.edf.specs.Demand.{WellFormed, WholePeriods, Demand, span_load}
use Rattle.edf.specs.SchedulingTheorems.{one_span_decides_demand, load_decides_demand, load_of_met_demand}
use Rattle.plan_rules.specs.CoreOfPlan.{core_tasks}
use Rattle.plan_rules.specs.PlanLaws.{PassingPlan}
use Rattle.plan_rules.specs.Plans.{fits}
use Rattle.plan_rules.specs.Quantities.{core_load, jobs, load_on}
use Rattle.plan_rules.specs.Windows.{window}

pub load_of_core : (p : Problem) (plan : List ℕ) (k : ℕ) → core_load p plan k ≡ span_load (core_tasks p plan k) (span p)
unfolding core_tasks core_load load_on jobs
load_of_core p plan k = refl

module _ (p : Problem) (v : Valid p) (plan : List ℕ) (k : ℕ) where
  pub core_well_formed : WellFormed (core_tasks p plan k)
  unfolding core_tasks
  core_well_formed =
      record {
        window_above_0 = λ i h. (v.task i h).deadline.at_least;
        window_within_period = λ i h. (v.task i h).deadline.at_most;
      }

  pub core_periods_whole : WholePeriods (core_tasks p plan k) (span p)
  unfolding core_tasks
  core_periods_whole = record { span_above_0 = span_above_zero v; period_divides = period_divides_span v }

  pub fits_iff_demand : (fits p plan k ≡ true) ↔ Demand (core_tasks p plan k)
  unfolding fits
  fits_iff_demand = one_span_decides_demand (core_tasks p plan k) (span p) core_well_formed core_periods_whole

  pub load_of_fitting_core : fits p plan k ≡ true → core_load p plan k ≤ span p
  load_of_fitting_core fit =
      rw (load_of_core p plan k)
      (load_of_met_demand (core_tasks p plan k) (span p) core_well_formed core_periods_whole (fits_iff_demand.0 fit))

  -- "A core fits when its kept tasks' jobs × ticks add up to at most L": so it is where no deadline is before the period's end
  pub fits_iff_load : ((i : ℕ) → i < task_count p → window (task_at p i) ≡ (task_at p i).period) →
      (fits p plan k ≡ true) ↔ (core_load p plan k ≤ span p)
  unfolding fits core_tasks
  fits_iff_load at_period_end =
      rw (load_of_core p plan k) (load_decides_demand (core_tasks p plan k) (span p) core_periods_whole at_period_end)

pub load_of_passing_plan : (p : Problem) → Valid p → (plan : List ℕ) → PassingPlan p plan → (k : ℕ) → k < p.cores →
    core_load p plan k ≤ span p
load_of_passing_plan p v plan passing k h = load_of_fitting_core p v plan k (passing.core_fits k h)
