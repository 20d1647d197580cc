-- How large the cost of a plan that passes is: what 64-bit numbers have to hold, and how many digits are printed.
use Rattle.std.specs.Prelude.{ℕ, ◌*◌, ◌^◌, ◌≤◌, ◌<◌, Bool, true, false, cond, List, ◌⊎◌, ◌≡◌, refl}
use Rattle.std.proofs.Common.{inl, inr, eqb-true}
use Rattle.std.proofs.Math.Nat.{mul-le-mul}
use native.Mathlib.Omega.{arith}
use Rattle.laws.specs.SumBounds.{sum_at_most}
use Rattle.ranges.specs.Limits.{most_penalty, most_span, most_tasks, may_not_be_refused}
use Rattle.instance.specs.Node.{Problem, task_count, task_at}
use Rattle.instance.specs.Valid.{InRange, Valid}
use Rattle.plan_rules.specs.PlanLaws.{PassingPlan}
use Rattle.prices.specs.PriceBounds.{penalty_of, passing_energy_at_most}
use Rattle.plan_rules.specs.QuantityBounds.{jobs_at_most}
use Rattle.plan_rules.specs.Quantities.{is_refused, jobs}
use Rattle.prices.specs.Prices.{penalty, cost}

module _ {p : Problem} (v : Valid p) (plan : List ℕ) (passing : PassingPlan p plan) where
  -- a refused task may be refused
  refused_penalty : (i : ℕ) → i < task_count p → is_refused plan i ≡ true → (task_at p i).penalty ≤ most_penalty
  refused_penalty i h refused = go (v.task i h).penalty
    where
      go : InRange 1 most_penalty (task_at p i).penalty ⊎ ((task_at p i).penalty ≡ may_not_be_refused) → (task_at p i).penalty ≤ most_penalty
      go (inl range) = range.at_most
      go (inr must) = absurd (passing.allowed.must_tasks_kept i h must (eqb-true _ _ refused))

  penalty_of_task_at_most : (i : ℕ) → i < task_count p → penalty_of p plan i ≤ most_span * most_penalty
  penalty_of_task_at_most i h = go (is_refused plan i) refl
    where
      go : (b : Bool) → is_refused plan i ≡ b → cond b (jobs p i * (task_at p i).penalty) 0 ≤ most_span * most_penalty
      go true e = mul-le-mul (jobs_at_most p v plan i h) (refused_penalty i h e)
      go false e = omega arith

  passing_penalty_at_most : penalty p plan ≤ most_tasks * (most_span * most_penalty)
  unfolding penalty
  passing_penalty_at_most =
      omega (arith, sum_at_most (penalty_of p plan) (most_span * most_penalty) (task_count p) penalty_of_task_at_most, v.task_count_bound)

  pub passing_cost_below : cost p plan < 2 ^ 46
  unfolding cost
  passing_cost_below =
      omega (
        arith,
        mul-le-mul v.energy_weight.at_most (passing_energy_at_most p v plan passing),
        mul-le-mul v.penalty_weight.at_most passing_penalty_at_most,
      )
