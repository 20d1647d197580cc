-- How large the quantities of a valid problem can be, so that the code's numbers fit.
use Rattle.std.specs.Prelude.{ℕ, zero, suc, ◌+◌, ◌-◌, ◌*◌, ◌/◌, ◌≤◌, ◌<◌, Bool, List}
use Rattle.std.proofs.Math.Bool.{true, false, cond}
use Rattle.std.proofs.Math.Nat.{div-le_self, div-zero, mul-le-mul}
use Rattle.std.proofs.Common.{div-lt_iff_lt-mul, le-mul_of_pos_right}
use native.Mathlib.Omega.{arith}
use Rattle.ranges.specs.Limits.{most_cycles, most_span, most_start_ticks}
use Rattle.instance.specs.Node.{Problem, level_at, task_at, task_count, span}
use Rattle.instance.specs.Valid.{Valid}
use Rattle.plan_rules.specs.Quantities.{level_of, keeps, ticks, job_ticks, ticks_on, jobs, load_on}

-- a number that is raised by less than the divisor has a quotient of at most itself
quotient_at_most : (a r s : ℕ) → r < s → (a + r) / s ≤ a
quotient_at_most a r s l =
    let whole : a + r < suc a * s = omega (arith, le-mul_of_pos_right {m = s} a (omega arith)) in
    let below : (a + r) / s < suc a = (div-lt_iff_lt-mul {k = s} (omega arith)).1 whole in
    omega arith

-- of any job
abbrev pub most_ticks : ℕ
most_ticks = most_cycles + most_start_ticks

-- a quotient that is rounded up is at most the dividend
pub ticks_at_most : (start cycles speed : ℕ) → start ≤ most_start_ticks → cycles ≤ most_cycles → ticks start cycles speed ≤ most_ticks
unfolding ticks
ticks_at_most start cycles zero few some = rw div-zero (omega arith)
ticks_at_most start cycles (suc s) few some = omega (arith, quotient_at_most cycles (suc s - 1) (suc s) (omega arith))

module _ (p : Problem) (v : Valid p) (plan : List ℕ) (i : ℕ) (h : i < task_count p) where
  pub jobs_at_most : jobs p i ≤ most_span
  unfolding jobs
  jobs_at_most = omega (arith, div-le_self (span p) (task_at p i).period, v.span_at_most)

  pub job_ticks_at_most : job_ticks p plan i ≤ most_ticks
  unfolding job_ticks
  job_ticks_at_most = ticks_at_most _ _ (level_at p (level_of p plan i)).speed v.start (v.task i h).cycles.at_most

  pub ticks_on-at_most : (k : ℕ) → ticks_on p plan k i ≤ most_ticks
  unfolding ticks_on
  ticks_on-at_most k = go (keeps p plan k i)
    where
      go : (kept : Bool) → cond kept (job_ticks p plan i) 0 ≤ most_ticks
      go true = job_ticks_at_most
      go false = omega arith

  pub load_on-at_most : (k : ℕ) → load_on p plan k i ≤ most_span * most_ticks
  unfolding load_on
  load_on-at_most k = mul-le-mul jobs_at_most (ticks_on-at_most k)
