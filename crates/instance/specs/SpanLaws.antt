-- The span is the least common multiple of the periods: above 0, a multiple of each, and a divisor of whatever is a
-- multiple of each.
use Rattle.std.specs.Prelude.{ℕ, zero, suc, ◌≤◌, ◌<◌, List, [], ◌∷◌, ◌++◌, ◌≡◌, refl, length, get_or}
use Rattle.std.specs.Int.{◌∣◌}
use Rattle.std.proofs.Math.Nat.{dvd_refl, dvd_trans, one-dvd, le_of_dvd}
use Rattle.std.proofs.Common.{le_of_suc-le-suc, arith}
use Rattle.laws.specs.Multiples.{lcm}
use Rattle.laws.specs.MultiplesLaws.{left_divides_lcm, right_divides_lcm, lcm_above_zero, lcm_divides_common_multiple}
use Rattle.instance.specs.Node.{Problem, task_count, task_at, no_task, span_from, span}
use Rattle.instance.specs.Valid.{Valid}
use Rattle.instance.specs.declared.Task.{Task}

pub span_of_more : (s : ℕ) (ts : List Task) (t : Task) → span_from s (ts ++ (t ∷ [])) ≡ lcm (span_from s ts) t.period
unfolding span_from
span_of_more s [] t = refl
span_of_more s (u ∷ ts) t = span_of_more (lcm s u.period) ts t

-- P holds of every task's period
abbrev pub EachPeriod : (ℕ → Type 0) → List Task → Type 0
EachPeriod P ts = (i : ℕ) → i < length ts → P (get_or ts i no_task).period

-- L is the least common multiple of s and the tasks' periods
record IsSpan (s : ℕ) (ts : List Task) (L : ℕ) : Type 0 where
  above_zero : 0 < L
  so_far_divides : s ∣ L
  period_divides : EachPeriod (λ p. p ∣ L) ts
  divides_common_multiple : (m : ℕ) → s ∣ m → EachPeriod (λ p. p ∣ m) ts → L ∣ m

span_step : (s : ℕ) (t : Task) (ts : List Task) (L : ℕ) → 0 < s → 0 < t.period →
    IsSpan (lcm s t.period) ts L → IsSpan s (t ∷ ts) L
span_step s t ts L s_above t_above h =
    record {
      above_zero = h.above_zero;
      so_far_divides = dvd_trans s (left_divides_lcm s t.period s_above) h.so_far_divides;
      period_divides = each;
      divides_common_multiple = λ m s_divides periods.
          h.divides_common_multiple
          m
          (lcm_divides_common_multiple s t.period s_above t_above s_divides (periods 0 (omega arith)))
          (λ i l. periods (suc i) (omega arith));
    }
  where
    each : EachPeriod (λ p. p ∣ L) (t ∷ ts)
    each zero l = dvd_trans t.period (right_divides_lcm s t.period) h.so_far_divides
    each (suc i) l = h.period_divides i (le_of_suc-le-suc l)

span_from-is_span : (s : ℕ) (ts : List Task) → 0 < s → EachPeriod (λ p. 0 < p) ts → IsSpan s ts (span_from s ts)
unfolding span_from
span_from-is_span s [] s_above periods =
    record {
      above_zero = s_above;
      so_far_divides = dvd_refl s;
      period_divides = λ i l. absurd (omega arith);
      divides_common_multiple = λ m s_divides none. s_divides;
    }
span_from-is_span s (t ∷ ts) s_above periods =
    span_step
    s
    t
    ts
    (span_from (lcm s t.period) ts)
    s_above
    (periods 0 (omega arith))
    (span_from-is_span
    (lcm s t.period)
    ts
    (lcm_above_zero s t.period (periods 0 (omega arith)))
    (λ i l. periods (suc i) (omega arith)))

-- the running span only grows
pub so_far_at_most-span_from : (s : ℕ) (ts : List Task) → 0 < s → EachPeriod (λ p. 0 < p) ts → s ≤ span_from s ts
so_far_at_most-span_from s ts s_above periods =
    let h = span_from-is_span s ts s_above periods in le_of_dvd h.above_zero h.so_far_divides

module _ {p : Problem} (v : Valid p) where
  periods_above_zero : EachPeriod (λ q. 0 < q) p.tasks
  periods_above_zero i l = (v.task i l).period.at_least

  span_is_span : IsSpan 1 p.tasks (span p)
  unfolding span
  span_is_span = span_from-is_span 1 p.tasks (omega arith) periods_above_zero

  pub span_above_zero : 0 < span p
  span_above_zero = span_is_span.above_zero

  pub period_divides_span : (i : ℕ) → i < task_count p → (task_at p i).period ∣ span p
  period_divides_span = span_is_span.period_divides

  pub span_divides_common_multiple : (m : ℕ) → ((i : ℕ) → i < task_count p → (task_at p i).period ∣ m) → span p ∣ m
  span_divides_common_multiple m = span_is_span.divides_common_multiple m (one-dvd m)
