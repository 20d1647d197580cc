-- Laws of the number of jobs due by a tick.
use Rattle.std.specs.Prelude.{ℕ, ◌+◌, ◌-◌, ◌*◌, ◌/◌, ◌≤◌, ◌<◌, ◌≡◌}
use Rattle.std.proofs.Common.{⊎_elim, le_trans, le-div_iff_mul-le, le-mul_of_pos_right, mul_assoc, one-mul, zero-add, arith}
use Rattle.std.proofs.Math.Nat.{add_right_comm, add-mul-div_right, div-eq_of_lt, div-mul_cancel}
use Rattle.laws.specs.Below.{lt_or_le}
use Rattle.laws.specs.DivisionLaws.{div_mono}
use Rattle.edf.specs.Demand.{WellFormed, WholePeriods, jobs_due}
use Rattle.dispatch.specs.Rows.{CoreTasks}

pub period_above_0 : {core : CoreTasks} → WellFormed core → (i : ℕ) → i < core.size → 0 < core.period i
period_above_0 wf i l = le_trans (wf.window_above_0 i l) (wf.window_within_period i l)

module _ (core : CoreTasks) (wf : WellFormed core) (i : ℕ) (l : i < core.size) where
  pub due_of_counted : (j x : ℕ) → j < jobs_due core i x → j * core.period i + core.window i ≤ x
  unfolding jobs_due
  due_of_counted j x h =
      omega (arith, (le-div_iff_mul-le (period_above_0 wf i l)).0 h, wf.window_within_period i l)

  pub counted_of_due : (j x : ℕ) → j * core.period i + core.window i ≤ x → j < jobs_due core i x
  unfolding jobs_due
  counted_of_due j x h = (le-div_iff_mul-le (period_above_0 wf i l)).1 (omega (arith, wf.window_within_period i l))

  pub jobs_due-mono : (x y : ℕ) → x ≤ y → jobs_due core i x ≤ jobs_due core i y
  unfolding jobs_due
  jobs_due-mono x y h =
      let slack = core.period i - core.window i in
      div_mono (x + slack) (y + slack) (core.period i) (period_above_0 wf i l) (omega arith)

  pub jobs_due-at_most : (x : ℕ) → jobs_due core i x ≤ x
  jobs_due-at_most x =
      ⊎_elim
      (λ (more : x < jobs_due core i x).
      absurd (omega (arith, due_of_counted x x more, le-mul_of_pos_right x (period_above_0 wf i l), wf.window_above_0 i l)))
      (λ few. few)
      (lt_or_le x (jobs_due core i x))

  -- after n more periods n more jobs are due
  pub jobs_due-later : (x n : ℕ) → jobs_due core i (x + n * core.period i) ≡ jobs_due core i x + n
  unfolding jobs_due
  jobs_due-later x n =
      let slack = core.period i - core.window i in
      rw (add_right_comm x (n * core.period i) slack) (add-mul-div_right (x + slack) n (period_above_0 wf i l))

  pub none_due_at_0 : jobs_due core i 0 ≡ 0
  unfolding jobs_due
  none_due_at_0 = div-eq_of_lt (omega (arith, wf.window_above_0 i l, wf.window_within_period i l))

module _ (core : CoreTasks) (wf : WellFormed core) (span : ℕ) (whole : WholePeriods core span) (i : ℕ) (l : i < core.size) where
  pub jobs_due-after_spans : (x n : ℕ) → jobs_due core i (x + n * span) ≡ jobs_due core i x + n * (span / core.period i)
  jobs_due-after_spans x n =
      let p = core.period i in
      rw (mul_assoc n (span / p) p, div-mul_cancel p (whole.period_divides i l)) at (jobs_due-later core wf i l x (n * (span / p)))

  pub jobs_due-at_span : jobs_due core i span ≡ span / core.period i
  jobs_due-at_span =
      let jobs = span / core.period i in
      let one_span = jobs_due-after_spans 0 1 in
      rw (one-mul span, zero-add span, none_due_at_0 core wf i l, zero-add (1 * jobs), one-mul jobs) at one_span
