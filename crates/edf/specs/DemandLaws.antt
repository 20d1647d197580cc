-- Laws of the demand: it rises with the tick, and with each span by the load, so that one span decides for all ticks.
use Prim.Native.Nat.{ℕ, ◌+◌, ◌*◌, ◌/◌, ◌%◌, ◌≤◌, ◌<◌}
use Rattle.std.specs.Prelude.{true, ◌↔◌, ◌≡◌}
use Rattle.std.proofs.Math.Path.{ap}
use Rattle.std.proofs.Common.{◌∙◌, le_refl, le_trans, le_of_lt, mod-lt, mul-zero, one-mul, zero-add, arith, leb-true, le-leb}
use Rattle.std.proofs.Math.Nat.{mod-add-div', mul-le-mul_left}
use Rattle.laws.specs.SearchFacts.{every_iff}
use Rattle.laws.specs.SumLaws.{sum_add, sum_cong, sum_mono, sum_scaled, sum_zero}
use Rattle.laws.specs.Sums.{sum}
use Rattle.dispatch.specs.Rows.{CoreTasks}
use Rattle.edf.specs.Demand.{WellFormed, WholePeriods, Demand, demand_at, load_of, meets_demand, span_load, ticks_due}
use Rattle.edf.specs.JobsDueLaws.{jobs_due-after_spans, jobs_due-mono, none_due_at_0}

pub meets_demand_within : (core : CoreTasks) (span : ℕ) →
    (meets_demand core span ≡ true) ↔ ((x : ℕ) → x ≤ span → demand_at core x ≤ x)
unfolding meets_demand
meets_demand_within core span = (
  λ met x h. leb-true _ _ ((every_iff _ _).0 met x (omega arith)),
  λ met. (every_iff _ _).1 (λ x h. le-leb _ _ (met x (omega arith))),
)

module _ (core : CoreTasks) (wf : WellFormed core) where
  pub demand_mono : (x y : ℕ) → x ≤ y → demand_at core x ≤ demand_at core y
  unfolding demand_at
  demand_mono x y h =
      sum_mono (ticks_due core x) (ticks_due core y) core.size (λ i l. mul-le-mul_left (core.ticks i) (jobs_due-mono core wf i l x y h))

  pub none_due_by_0 : demand_at core 0 ≡ 0
  unfolding demand_at
  none_due_by_0 = sum_zero (ticks_due core 0) core.size (λ i l. rw (none_due_at_0 core wf i l) (mul-zero (core.ticks i)))

  -- what is due by tick b is met by each tick from that number of ticks on, up to b
  pub met_from_demand_on : (b x : ℕ) → x ≤ b → demand_at core b ≤ x → demand_at core x ≤ x
  met_from_demand_on b x l h = le_trans (demand_mono x b l) h

module _ (core : CoreTasks) (wf : WellFormed core) (span : ℕ) (whole : WholePeriods core span) where
  pub demand_after_spans : (x n : ℕ) → demand_at core (x + n * span) ≡ demand_at core x + n * span_load core span
  unfolding demand_at
  demand_after_spans x n =
      let parts : ℕ → ℕ = λ i. ticks_due core x i + n * load_of core span i in
      let each : (i : ℕ) → i < core.size → ticks_due core (x + n * span) i ≡ parts i =
      λ i l. rw (jobs_due-after_spans core wf span whole i l x n) (omega arith) in
      sum_cong (ticks_due core (x + n * span)) parts core.size each
      ∙ sum_add (ticks_due core x) (λ i. n * load_of core span i) core.size
      ∙ ap (λ (all : ℕ). sum (ticks_due core x) core.size + all) (sum_scaled n (load_of core span) core.size)

  pub demand_at_span : demand_at core span ≡ span_load core span
  demand_at_span =
      let load = span_load core span in
      let one_span = demand_after_spans 0 1 in
      rw (one-mul span, zero-add span, none_due_by_0 core wf, zero-add (1 * load), one-mul load) at one_span

  met_within_span_is_demand : ((x : ℕ) → x ≤ span → demand_at core x ≤ x) → Demand core
  met_within_span_is_demand met = record { met_by = at }
    where
      at : (x : ℕ) → demand_at core x ≤ x
      at x =
          let n = x / span in
          let r = x % span in
          let parts : r + n * span ≡ x = mod-add-div' x span in
          let fits : span_load core span ≤ span = rw demand_at_span at (met span (le_refl span)) in
          omega (
            arith,
            ap (demand_at core) parts,
            demand_after_spans r n,
            mul-le-mul_left n fits,
            met r (le_of_lt (mod-lt x whole.span_above_0)),
          )

  -- where the demand is met by each tick of the span, it is met by every tick
  pub meets_demand_iff : (meets_demand core span ≡ true) ↔ Demand core
  meets_demand_iff = (
    λ met. met_within_span_is_demand ((meets_demand_within core span).0 met),
    λ demand. (meets_demand_within core span).1 (λ x h. demand.met_by x),
  )

  pub demand_bounds_load : Demand core → span_load core span ≤ span
  demand_bounds_load demand = rw demand_at_span at (demand.met_by span)
