-- What is offered for a valid problem is within the limits of the search.
use Rattle.std.specs.Prelude.{ℕ, ◌+◌, ◌*◌, ◌≤◌, ◌<◌, Bool, get_or}
use mathlib.Core.List.{List, []}
use Rattle.std.proofs.Common.{le_trans, sub-le, arith}
use Rattle.std.proofs.Math.Nat.{add-le-add, mul-le-mul}
use Rattle.ranges.specs.Limits.{most_idle_power, most_levels, most_power, most_span, most_weight, may_not_be_refused}
use Rattle.instance.specs.Node.{Problem, level_count, task_at, task_count, span}
use Rattle.instance.specs.Valid.{Valid}
use Rattle.plan_rules.specs.Quantities.{jobs}
use Rattle.plan_rules.specs.QuantityBounds.{jobs_at_most}
use Rattle.prices.specs.PriceBounds.{job_penalty_at_most}
use Rattle.assignment.specs.Limits.{most_cost}
use Rattle.knapsack.specs.Offered.{Affordable}
use Rattle.core_tables.specs.AwakeCores.{alone_cost}
use Rattle.offers.specs.OfferedOptions.{LevelsOffered, OptionsOffered, offered_level}
use Rattle.offers.specs.OptionsOf.{jobs_of, item_of, offer_of, idle_cost, offered_cost}

module _ {p : Problem} (v : Valid p) where
  -- a level that fits a core
  kept_cost_at_most : (i l : ℕ) → l < level_count p → (offer_of p (task_at p i)).load l ≤ span p →
      offered_cost p (task_at p i) l ≤ most_weight * (most_span * most_power) + most_weight * most_idle_power * most_span
  unfolding offer_of idle_cost alone_cost
  kept_cost_at_most i l h fits =
      add-le-add
      (mul-le-mul v.energy_weight.at_most (mul-le-mul (le_trans fits v.span_at_most) (v.level l h).power.at_most))
      (mul-le-mul (mul-le-mul v.energy_weight.at_most v.idle) (le_trans (sub-le _ _) v.span_at_most))

  pub idle_span_at_most : idle_cost p * span p ≤ most_cost
  unfolding idle_cost
  idle_span_at_most = omega (arith, mul-le-mul (mul-le-mul v.energy_weight.at_most v.idle) v.span_at_most)

  -- also where the task may not be refused
  refusal_at_most : (i : ℕ) → i < task_count p → (item_of p (task_at p i)).refusal ≤ most_weight * (most_span * may_not_be_refused)
  unfolding item_of jobs_of jobs
  refusal_at_most i h =
      mul-le-mul v.penalty_weight.at_most (mul-le-mul (jobs_at_most p v [] i h) (job_penalty_at_most p v i h))

  pub offered_affordable : {load cost : List ℕ} → LevelsOffered p (task_count p * most_levels) load cost →
      Affordable (task_count p) (level_count p) (span p) load cost
  offered_affordable o =
      record {
        levels_limited = v.level_count_bound.at_most;
        capacity_limited = v.span_at_most;
        loads_for_all = omega (arith, o.load_length, v.task_count_bound);
        costs_for_all = omega (arith, o.cost_length, v.task_count_bound);
        cheap = λ i h l k fits.
            let level = offered_level v.level_count_bound.at_most o i l h k in
            let takes = rw level.same_load at fits in
            omega (arith, level.same_cost takes, kept_cost_at_most i l k takes);
      }

  pub offered_refusal_at_most : {load cost refusal : List ℕ} {must : List Bool} → OptionsOffered p (task_count p) load cost refusal must →
      (i : ℕ) → i < task_count p → get_or refusal i 0 ≤ most_cost
  offered_refusal_at_most o i h = omega (arith, o.same_refusal i h, refusal_at_most i h)
