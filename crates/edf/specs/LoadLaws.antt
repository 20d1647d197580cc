-- Where each job is due at the next release, a load of at most the span is the demand condition.
use Rattle.std.specs.Prelude.{ℕ, ◌*◌, ◌/◌, ◌≤◌, ◌<◌, ◌≡◌}
use Rattle.std.proofs.Math.Nat.{div-mul_cancel, le_of_mul-le-mul_left, mul-le-mul_left, add-zero, pos_of_dvd_of_pos, sub_self}
use Rattle.std.proofs.Common.{div-mul-le_self, le_of_eq, mul-le-mul_right}
use native.Mathlib.Omega.{arith}
use Rattle.laws.specs.SumLaws.{sum_mono, sum_scaled}
use Rattle.edf.specs.Demand.{WellFormed, WholePeriods, Demand, demand_at, jobs_due, ticks_due, load_of, span_load}
use Rattle.dispatch.specs.Rows.{CoreTasks}

-- q whole periods within x ticks, out of n in a span
share_of_span : (p n ticks q x : ℕ) → q * p ≤ x → n * p * (ticks * q) ≤ x * (n * ticks)
share_of_span p n ticks q x h = omega (arith, mul-le-mul_right (n * ticks) h)

module _ (core : CoreTasks) (span : ℕ) (whole : WholePeriods core span)
    (at_period_end : (i : ℕ) → i < core.size → core.window i ≡ core.period i) where
  pub period_windows_well_formed : WellFormed core
  period_windows_well_formed =
      record {
        window_above_0 = λ i l. rw (at_period_end i l) (pos_of_dvd_of_pos (whole.period_divides i l) whole.span_above_0);
        window_within_period = λ i l. le_of_eq (at_period_end i l);
      }

  -- of what a task asks for over a span, no more than the share of x ticks is due by x
  due_to_load : (x i : ℕ) → i < core.size → span * ticks_due core x i ≤ x * load_of core span i
  unfolding jobs_due
  due_to_load x i l =
      let p = core.period i in
      let shared = share_of_span p (span / p) (core.ticks i) (x / p) x (div-mul-le_self x p) in
      rw (at_period_end i l, sub_self p, add-zero x) (rw (div-mul_cancel p (whole.period_divides i l)) at shared)

  pub load_within_span_is_demand : span_load core span ≤ span → Demand core
  unfolding demand_at
  load_within_span_is_demand fits = record { met_by = λ x. le_of_mul-le-mul_left (scaled x) whole.span_above_0 }
    where
      scaled : (x : ℕ) → span * demand_at core x ≤ span * x
      scaled x =
          omega (
            arith,
            sum_mono (λ i. span * ticks_due core x i) (λ i. x * load_of core span i) core.size (due_to_load x),
            sum_scaled span (ticks_due core x) core.size,
            sum_scaled x (load_of core span) core.size,
            mul-le-mul_left x fits,
          )
