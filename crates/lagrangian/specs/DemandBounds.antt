-- What the demand of a core's tasks says of each of them, and on what it depends.
use Rattle.std.specs.Prelude.{◌≡◌, ℕ, suc, ◌<◌, ◌≤◌, true, nat_le}
use Rattle.std.proofs.Common.{le_trans, mul-le-mul_left, arith}
use Rattle.laws.specs.Search.{every}
use Rattle.laws.specs.SumLaws.{sum_cong, term_le_sum}
use Rattle.dispatch.specs.Rows.{CoreTasks}
use Rattle.edf.specs.Demand.{WellFormed, demand_at, jobs_due, meets_demand, ticks_due}
use Rattle.edf.specs.DemandLaws.{meets_demand_within}
use Rattle.edf.specs.JobsDueLaws.{counted_of_due}

-- two cores with the same tasks
pub record SameTasks (core core₂ : CoreTasks) : Type 0 where
  pub size : core.size ≡ core₂.size
  pub period : (i : ℕ) → i < core.size → core.period i ≡ core₂.period i
  pub window : (i : ℕ) → i < core.size → core.window i ≡ core₂.window i
  pub ticks : (i : ℕ) → i < core.size → core.ticks i ≡ core₂.ticks i

pub same_demand : (core core₂ : CoreTasks) → SameTasks core core₂ → (x : ℕ) → demand_at core x ≡ demand_at core₂ x
unfolding demand_at jobs_due
same_demand core core₂ same x =
    rw (← same.size)
    (sum_cong (ticks_due core x) (ticks_due core₂ x) core.size
    (λ i l. rw (same.period i l, same.window i l, same.ticks i l)))

pub same_tasks_meet : (core core₂ : CoreTasks) → SameTasks core core₂ → (span : ℕ) → meets_demand core span ≡ meets_demand core₂ span
unfolding meets_demand
same_tasks_meet core core₂ same span = λ j. every (λ x. nat_le (same_demand core core₂ same x j) x) (suc span)

-- a job has its ticks by its first due tick
pub ticks_within_window : (core : CoreTasks) → WellFormed core → (span : ℕ) → meets_demand core span ≡ true → (i : ℕ) → i < core.size →
    core.window i ≤ span → core.ticks i ≤ core.window i
unfolding demand_at
ticks_within_window core wf span met i l within =
    let x = core.window i in
    let due : 0 < jobs_due core i x = counted_of_due core wf i l 0 x (omega arith) in
    le_trans (omega (arith, mul-le-mul_left (core.ticks i) due))
    (le_trans (term_le_sum (ticks_due core x) core.size i l) ((meets_demand_within core span).0 met x within))
