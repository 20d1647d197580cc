-- Every period divides the span: jobs tile it, and rows tile the table. A job's window ends by the next release.
use Rattle.std.specs.Prelude.{ℕ, suc, ◌+◌, ◌*◌, ◌/◌, ◌%◌, ◌≤◌, ◌<◌, List, ◌≡◌, get_or}
use Rattle.std.specs.Int.{◌∣◌}
use Rattle.std.proofs.Common.{ap, div-add-mod', div-lt_iff_lt-mul, le_of_eq, le_trans, mod-lt, mul-le-mul_right, arith}
use Rattle.std.proofs.Math.Nat.{div-mul_cancel, pos_of_dvd_of_pos}
use Rattle.instance.specs.Node.{Problem, task_count, task_at, span}
use Rattle.instance.specs.SpanLaws.{span_above_zero, period_divides_span}
use Rattle.instance.specs.Valid.{Valid}
use Rattle.plan_rules.specs.Quantities.{jobs}
use Rattle.plan_rules.specs.Windows.{release_of, window}
use Rattle.tables.specs.Tables.{table_size, slot_at}

-- what the tables of an instance need of it
pub record Periodic (p : Problem) : Type 0 where
  pub span_positive : 0 < span p
  pub period_divides_span : (i : ℕ) → i < task_count p → (task_at p i).period ∣ span p
  pub window_above_0 : (i : ℕ) → i < task_count p → 1 ≤ window (task_at p i)
  pub window_within_period : (i : ℕ) → i < task_count p → window (task_at p i) ≤ (task_at p i).period

pub valid_is_periodic : {p : Problem} → Valid p → Periodic p
valid_is_periodic v =
    record {
      span_positive = span_above_zero v;
      period_divides_span = period_divides_span v;
      window_above_0 = λ i h. (v.task i h).deadline.at_least;
      window_within_period = λ i h. (v.task i h).deadline.at_most;
    }

module _ (p : Problem) (periodic : Periodic p) where
  pub period_positive : (i : ℕ) → i < task_count p → 0 < (task_at p i).period
  period_positive i h = pos_of_dvd_of_pos (periodic.period_divides_span i h) periodic.span_positive

  pub jobs_fill_span : (i : ℕ) → i < task_count p → jobs p i * (task_at p i).period ≡ span p
  unfolding jobs
  jobs_fill_span i h = div-mul_cancel (task_at p i).period (periodic.period_divides_span i h)

  -- a tick of the span lies between the release of a job of the span and the next
  pub job_of_tick : (i t : ℕ) → i < task_count p → t < span p → t / (task_at p i).period < jobs p i
  job_of_tick i t h l =
      (div-lt_iff_lt-mul (period_positive i h)).1 (rw jobs_fill_span l)

  pub next_release_in_span : (i j : ℕ) → i < task_count p → j < jobs p i → release_of p i (suc j) ≤ span p
  next_release_in_span i j h l = le_trans (mul-le-mul_right (task_at p i).period l) (le_of_eq (jobs_fill_span i h))

  -- a tick of a job's window lies in the span
  pub tick_of_job : (i j x : ℕ) → i < task_count p → j < jobs p i → x < window (task_at p i) → release_of p i j + x < span p
  tick_of_job i j x h l w = omega (arith, next_release_in_span i j h l, periodic.window_within_period i h)

  pub row_of_index : (x : ℕ) → x < table_size p → x / span p < p.cores
  row_of_index x h = (div-lt_iff_lt-mul periodic.span_positive).1 h

  pub tick_of_index : (x : ℕ) → x % span p < span p
  tick_of_index x = mod-lt x periodic.span_positive

pub slot_of_index : (p : Problem) (table : List ℕ) (x : ℕ) → slot_at p table (x / span p) (x % span p) ≡ get_or table x 0
unfolding slot_at
slot_of_index p table x = ap (λ (n : ℕ). get_or table n 0) (div-add-mod' x (span p))
