-- A row that serves each job of a span shows that its tasks meet the demand condition.
use Prim.Native.Nat.{ℕ, suc, ◌/◌, ◌≤◌, ◌<◌}
use Rattle.std.specs.Prelude.{true, ◌≡◌}
use Rattle.std.proofs.Common.{sym, le_of_eq, lt_of_lt_of_le, arith}
use Rattle.std.proofs.Math.Nat.{le_trans}
use Rattle.std.proofs.Math.Dec.{eqb}
use Rattle.laws.specs.CountLaws.{windows_le_count, count_by_number}
use Rattle.laws.specs.Search.{count}
use Rattle.laws.specs.SumLaws.{sum_mono}
use Rattle.edf.specs.Demand.{WellFormed, WholePeriods, Serves, demand_at, jobs_due, meets_demand, ticks_due}
use Rattle.edf.specs.DemandLaws.{meets_demand_within}
use Rattle.edf.specs.JobsDueLaws.{due_of_counted, jobs_due-at_span, jobs_due-mono}
use Rattle.dispatch.specs.Rows.{CoreTasks}

module _ (core : CoreTasks) (wf : WellFormed core) (span : ℕ) (whole : WholePeriods core span)
    (slots : ℕ → ℕ) (serves : Serves slots span core) where
  -- the jobs of a task that are due by x have all their slots below x
  due_jobs_have_slots : (x i : ℕ) → x ≤ span → i < core.size → ticks_due core x i ≤ count (λ t. eqb (slots t) (suc i)) x
  due_jobs_have_slots x i h l =
      let of_span : jobs_due core i x ≤ span / core.period i =
      rw (jobs_due-at_span core wf span whole i l) at (jobs_due-mono core wf i l x span h) in
      omega (
        arith,
        windows_le_count
            (λ t. eqb (slots t) (suc i))
            (core.period i)
            (core.window i)
            (core.ticks i)
            (jobs_due core i x)
            x
            (wf.window_within_period i l)
            (λ j m. due_of_counted core wf i l j x m)
            (λ j m. le_of_eq (sym (serves.each_job i j l (lt_of_lt_of_le m of_span)))),
      )

  met_within_span : (x : ℕ) → x ≤ span → demand_at core x ≤ x
  unfolding demand_at
  met_within_span x h =
      let slots_of : ℕ → ℕ = λ i. count (λ t. eqb (slots t) (suc i)) x in
      le_trans
      (sum_mono (ticks_due core x) slots_of core.size (λ i l. due_jobs_have_slots x i h l))
      (count_by_number slots core.size x)

  pub served_core_meets_demand : meets_demand core span ≡ true
  served_core_meets_demand = (meets_demand_within core span).1 met_within_span
