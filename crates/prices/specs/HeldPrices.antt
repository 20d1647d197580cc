-- The price of a plan, from the fields of the struct that holds the problem.
use Rattle.std.specs.Prelude.{ℕ, ◌+◌, ◌*◌, ◌/◌, ◌≤◌, List, ◌≡◌}
use Rattle.std.proofs.Math.Path.{refl}
use Rattle.std.proofs.Common.{ap, ap₂, eq-eqb, mul-le-mul}
use Rattle.instance.specs.Held.{problem_in, Sound}
use Rattle.ranges.specs.Limits.{most_cores, most_power, most_span, most_tasks, most_weight}
use Rattle.instance.specs.Node.{task_at}
use Rattle.instance.specs.declared.Instance.{Instance}
use Rattle.instance.specs.declared.Task.{Task}
use Rattle.plan_rules.specs.HeldQuantities.{held_jobs}
use Rattle.plan_rules.specs.PlanLaws.{PassingPlan}
use Rattle.prices.specs.PriceBounds.{penalty_of, most_penalty_of, penalty_at_most, passing_energy_at_most}
use Rattle.plan_rules.specs.Quantities.{choice_at}
use Rattle.prices.specs.Prices.{energy, penalty, cost, price_of}
use Rattle.prices.specs.declared.amounts.Price.{Price}

module _ (inst : Instance) (s : Sound inst) where
  pub held_penalty_of : (i : ℕ) (plan : List ℕ) (task : Task) → choice_at plan i ≡ 0 → task ≡ task_at (problem_in inst) i →
      inst.span / task.period * task.penalty ≡ penalty_of (problem_in inst) plan i
  held_penalty_of i plan task none same =
      rw (eq-eqb (choice_at plan i) 0 none) (ap₂ ◌*◌ (held_jobs inst s i task same) (ap (λ (t : Task). t.penalty) same))

module _ (inst : Instance) (s : Sound inst) (plan : List ℕ) where
  pub weighted_energy_at_most : (all : ℕ) → PassingPlan (problem_in inst) plan → all ≡ energy (problem_in inst) plan →
      inst.weights.energy * all ≤ most_weight * (most_cores * (most_span * most_power))
  unfolding problem_in
  weighted_energy_at_most all passing e =
      rw e
      (mul-le-mul s.valid.energy_weight.at_most (passing_energy_at_most (problem_in inst) s.valid plan passing))

  pub weighted_penalty_at_most : (all : ℕ) → all ≡ penalty (problem_in inst) plan →
      inst.weights.penalty * all ≤ most_weight * (most_tasks * most_penalty_of)
  unfolding problem_in
  weighted_penalty_at_most all e =
      rw e (mul-le-mul s.valid.penalty_weight.at_most (penalty_at_most (problem_in inst) s.valid plan))

  pub held_price : (e w : ℕ) → e ≡ energy (problem_in inst) plan → w ≡ penalty (problem_in inst) plan →
      ◌≡◌ {A = Price} (record { energy = e; penalty = w; cost = inst.weights.energy * e + inst.weights.penalty * w })
      (price_of (problem_in inst) plan)
  unfolding price_of cost problem_in
  held_price e w same_energy same_penalty = rw (same_energy, same_penalty) refl
