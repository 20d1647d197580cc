-- A row repeated for ever: the window of job j falls on the window of job j modulo the jobs of a span.
use Rattle.std.specs.Prelude.{ℕ, suc, ◌+◌, ◌*◌, ◌/◌, ◌%◌, ◌<◌, ◌≡◌, eqb}
use Rattle.std.proofs.Common.{ap, div-add-mod', mod-lt, pos_of_ne-zero, lt_of_lt_of_le, arith}
use Rattle.std.proofs.Math.Nat.{div-mul_cancel}
use Rattle.std.proofs.Math.Arith.{digits_lt, digits_mod}
use Rattle.laws.specs.SearchFacts.{count_same}
use Rattle.edf.specs.Demand.{WellFormed, WholePeriods, slots_of_job, repeated}
use Rattle.dispatch.specs.Rows.{CoreTasks}

-- a tick of job j, taken modulo the span
tick_in_span : (p n j x : ℕ) → 0 < n → x < p → (j * p + x) % (n * p) ≡ j % n * p + x
tick_in_span p n j x above h =
    let parts : j * p + x ≡ j / n * (n * p) + (j % n * p + x) = omega (arith, ap (λ (k : ℕ). k * p) (div-add-mod' j n)) in
    rw parts (digits_mod (j / n) (digits_lt (mod-lt j above) h))

module _ (core : CoreTasks) (wf : WellFormed core) (span : ℕ) (whole : WholePeriods core span) (i j : ℕ) (l : i < core.size) where
  jobs_of_span : span / core.period i * core.period i ≡ span
  jobs_of_span = div-mul_cancel (core.period i) (whole.period_divides i l)

  some_job : 0 < span / core.period i
  some_job = pos_of_ne-zero (λ none. let no_span = rw none at jobs_of_span in omega (arith, whole.span_above_0))

  pub job_of_span : j % (span / core.period i) < span / core.period i
  job_of_span = mod-lt j some_job

  pub repeated_slot : (slots : ℕ → ℕ) (x : ℕ) → x < core.period i →
      repeated span slots (j * core.period i + x) ≡ slots (j % (span / core.period i) * core.period i + x)
  repeated_slot slots x h = ap slots (rw jobs_of_span at (tick_in_span (core.period i) (span / core.period i) j x some_job h))

  pub repeated_slots_of_job : (slots : ℕ → ℕ) →
      slots_of_job (repeated span slots) core i j ≡ slots_of_job slots core i (j % (span / core.period i))
  repeated_slots_of_job slots =
      let first = j % (span / core.period i) * core.period i in
      count_same
      (λ x. eqb (repeated span slots (j * core.period i + x)) (suc i))
      (λ x. eqb (slots (first + x)) (suc i))
      (core.window i)
      (λ x h. ap (λ (slot : ℕ). eqb slot (suc i)) (repeated_slot slots x (lt_of_lt_of_le h (wf.window_within_period i l))))
