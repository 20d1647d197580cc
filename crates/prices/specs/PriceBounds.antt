-- How large the prices of a valid problem can be, so that the code's numbers fit.
use Rattle.std.specs.Prelude.{ℕ, ◌+◌, ◌-◌, ◌*◌, ◌≤◌, ◌<◌, Bool, List}
use Rattle.std.proofs.Math.Bool.{true, false, cond}
use Rattle.std.proofs.Common.{⊎_elim, mod-lt}
use Rattle.std.proofs.Math.Nat.{mul-le-mul, mul-le-mul_right}
use native.Mathlib.Omega.{arith}
use Rattle.laws.specs.SumBounds.{sum_at_most, sum_of_products_at_most}
use Rattle.ranges.specs.Limits.{most_cores, most_idle_power, most_power, most_span, most_tasks, may_not_be_refused}
use Rattle.instance.specs.Node.{Problem, level_at, task_at, task_count, span}
use Rattle.instance.specs.Valid.{Valid}
use Rattle.plan_rules.specs.FitLaws.{load_of_passing_plan}
use Rattle.plan_rules.specs.PlanLaws.{PassingPlan}
use Rattle.plan_rules.specs.QuantityBounds.{most_ticks, jobs_at_most, load_on-at_most}
use Rattle.plan_rules.specs.Quantities.{is_refused, level_of, jobs, load_on, core_load}
use Rattle.prices.specs.Prices.{busy_energy, is_awake, idle_ticks, core_energy, energy, penalty}

-- the energy of task i on core k
abbrev pub energy_on : Problem → List ℕ → ℕ → ℕ → ℕ
energy_on p plan k i = load_on p plan k i * (level_at p (level_of p plan i)).power

-- the penalty of task i: none where the plan keeps it
abbrev pub penalty_of : Problem → List ℕ → ℕ → ℕ
penalty_of p plan i = cond (is_refused plan i) (jobs p i * (task_at p i).penalty) 0

-- of any plan, also one whose cores do not fit
abbrev pub most_energy_on : ℕ
most_energy_on = most_span * most_ticks * most_power

abbrev pub most_core_energy : ℕ
most_core_energy = most_tasks * most_energy_on + most_idle_power * most_span

abbrev pub most_penalty_of : ℕ
most_penalty_of = most_span * may_not_be_refused

pub job_penalty_at_most : (p : Problem) → Valid p → (i : ℕ) → i < task_count p → (task_at p i).penalty ≤ may_not_be_refused
job_penalty_at_most p v i h =
    ⊎_elim (λ range. omega (arith, range.at_most)) (λ must. omega arith) (v.task i h).penalty

module _ (p : Problem) (v : Valid p) (plan : List ℕ) where
  pub power_at_most : (i : ℕ) → (level_at p (level_of p plan i)).power ≤ most_power
  power_at_most i = (v.level (level_of p plan i) (mod-lt _ v.level_count_bound.at_least)).power.at_most

  pub energy_on-at_most : (k i : ℕ) → i < task_count p → energy_on p plan k i ≤ most_energy_on
  energy_on-at_most k i h = mul-le-mul (load_on-at_most p v plan i h k) (power_at_most i)

  -- an awake core that fits is idle where it is not busy
  idle_ticks_at_most : (k : ℕ) → core_load p plan k ≤ span p → idle_ticks p plan k + core_load p plan k ≤ span p
  unfolding idle_ticks
  idle_ticks_at_most k fits = go (is_awake p plan k)
    where
      go : (awake : Bool) → cond awake (span p - core_load p plan k) 0 + core_load p plan k ≤ span p
      go true = omega arith
      go false = omega arith

  idle_ticks_within_span : (k : ℕ) → idle_ticks p plan k ≤ most_span
  unfolding idle_ticks
  idle_ticks_within_span k = go (is_awake p plan k)
    where
      go : (awake : Bool) → cond awake (span p - core_load p plan k) 0 ≤ most_span
      go true = omega (arith, v.span_at_most)
      go false = omega arith

  pub core_energy-at_most : (k : ℕ) → core_energy p plan k ≤ most_core_energy
  unfolding core_energy busy_energy
  core_energy-at_most k =
      omega (
        arith,
        sum_at_most (energy_on p plan k) most_energy_on (task_count p) (energy_on-at_most k),
        mul-le-mul v.idle (idle_ticks_within_span k),
        v.task_count_bound,
      )

  pub penalty_of-at_most : (i : ℕ) → i < task_count p → penalty_of p plan i ≤ most_penalty_of
  penalty_of-at_most i h = go (is_refused plan i)
    where
      go : (refused : Bool) → cond refused (jobs p i * (task_at p i).penalty) 0 ≤ most_penalty_of
      go true = mul-le-mul (jobs_at_most p v plan i h) (job_penalty_at_most p v i h)
      go false = omega arith

  pub penalty_at_most : penalty p plan ≤ most_tasks * most_penalty_of
  unfolding penalty
  penalty_at_most =
      omega (arith, sum_at_most (penalty_of p plan) most_penalty_of (task_count p) penalty_of-at_most, v.task_count_bound)

  busy_energy-at_most : (k : ℕ) → busy_energy p plan k ≤ core_load p plan k * most_power
  unfolding busy_energy core_load
  busy_energy-at_most k =
      sum_of_products_at_most (load_on p plan k) (λ i. (level_at p (level_of p plan i)).power) most_power (task_count p) (λ i h.
      power_at_most i)

  -- a core that fits is busy and idle for a span at most; the largest idle power is the largest power
  fitting_core_energy_at_most : (k : ℕ) → core_load p plan k ≤ span p → core_energy p plan k ≤ most_span * most_power
  unfolding core_energy
  fitting_core_energy_at_most k fits =
      omega (
        arith,
        busy_energy-at_most k,
        mul-le-mul_right (idle_ticks p plan k) v.idle,
        idle_ticks_at_most k fits,
        v.span_at_most,
      )

  pub passing_energy_at_most : PassingPlan p plan → energy p plan ≤ most_cores * (most_span * most_power)
  unfolding energy
  passing_energy_at_most passing =
      omega (
        arith,
        sum_at_most (core_energy p plan) (most_span * most_power) p.cores (λ k h.
            fitting_core_energy_at_most k (load_of_passing_plan p v plan passing k h)),
        v.cores.at_most,
      )
