-- What a plan costs is what its options cost: core by core, and refusal by refusal.
use Prim.Native.Nat.{ℕ, zero, suc, ◌+◌, ◌*◌}
use Rattle.std.specs.Prelude.{Bool, List, ◌≡◌, eqb, length}
use Rattle.std.proofs.Math.Bool.{true, false, cond}
use Rattle.std.proofs.Math.Path.{refl, sym, ap}
use Rattle.std.proofs.Common.{ap₂, ◌∙◌, mul-zero}
use native.Mathlib.Omega.{arith}
use Rattle.laws.specs.SumLaws.{sum_cong, sum_scaled}
use Rattle.laws.specs.Sums.{sum}
use Rattle.instance.specs.Node.{Problem, task_count, task_at}
use Rattle.plan_rules.specs.Quantities.{choice_at, is_refused, jobs}
use Rattle.prices.specs.Prices.{core_energy, energy, penalty, cost}
use Rattle.assignment.specs.Assignment.{Item, cores_cost, refused_cost, total_cost}
use Rattle.planner.specs.CorePatternLaws.{energy_of_pattern}
use Rattle.planner.specs.OptionsLaws.{total_over_tasks}
use Rattle.offers.specs.OptionsOf.{jobs_of, item_of, options_of}

module _ (p : Problem) (plan : List ℕ) where
  cores_cost_lem : (cores : ℕ) → cores_cost (options_of p) cores plan ≡ p.weights.energy * sum (core_energy p plan) cores
  unfolding cores_cost sum options_of
  cores_cost_lem zero = sym (mul-zero p.weights.energy)
  cores_cost_lem (suc k) =
      let before = cores_cost_lem k in
      let here = ap (λ (e : ℕ). p.weights.energy * e) (energy_of_pattern p plan k) in
      omega arith

  refused_part : Item → ℕ → ℕ
  refused_part item c = cond (eqb c 0) item.refusal 0

  refused_task : (i : ℕ) →
      refused_part (item_of p (task_at p i)) (choice_at plan i)
      ≡ p.weights.penalty * cond (is_refused plan i) (jobs p i * (task_at p i).penalty) 0
  unfolding refused_part item_of jobs jobs_of
  refused_task i = go (is_refused plan i)
    where
      go : (b : Bool) →
          cond b (p.weights.penalty * (jobs p i * (task_at p i).penalty)) 0
          ≡ p.weights.penalty * cond b (jobs p i * (task_at p i).penalty) 0
      go true = refl
      go false = sym (mul-zero p.weights.penalty)

  refused_cost_lem : length plan ≡ task_count p → refused_cost (options_of p).items plan ≡ p.weights.penalty * penalty p plan
  unfolding refused_cost penalty refused_part
  refused_cost_lem e =
      total_over_tasks p refused_part refused_cost (λ plan. refl) (λ item items c plan. refl) plan e
      ∙ sum_cong _ _ _ (λ i h. refused_task i)
      ∙ sum_scaled p.weights.penalty _ (task_count p)

  pub cost_is_total : length plan ≡ task_count p → cost p plan ≡ total_cost (options_of p) plan
  unfolding cost energy total_cost options_of
  cost_is_total e = sym (ap₂ ◌+◌ (cores_cost_lem p.cores) (refused_cost_lem e))
