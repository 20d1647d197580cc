-- Where penalties are raised, the least cost is no smaller, and larger by at most the sum of the rises.
use Rattle.std.specs.Prelude.{ℕ, ◌≤◌, ◌<◌, List, ◌≡◌}
use Rattle.std.proofs.Common.{⊎_elim, sym, ap₂, ◌∙◌, arith}
use Rattle.std.proofs.Math.Option.{Option}
use Rattle.std.proofs.Math.Path.{ap}
use Rattle.instance.specs.Node.{Problem, task_count}
use Rattle.plan_rules.specs.Plans.{most_choice}
use Rattle.prices.specs.Prices.{cost}
use Rattle.planner.specs.CheapestLaws.{NoWorsePlan, Found, found, missing, first_cheapest-found}
use Rattle.planner.specs.ChoiceListLaws.{choice_lists-ascend}
use Rattle.planner.specs.Planning.{choice_lists, passes, is_allowed, best_plan}
use Rattle.penalties.specs.Penalties.{PenaltiesRaised, all_rises, PlansRise, no_plans, plans}
use Rattle.penalties.specs.RaisedPlanLaws.{same_task_count, same_most_choice, same_plans_pass, cost_rises}

no_dearer : (p : Problem) (plan other : List ℕ) → NoWorsePlan p plan other → cost p plan ≤ cost p other
no_dearer p plan other = ⊎_elim (λ (cheaper : cost p plan < cost p other). omega arith) (λ equal. omega (arith, equal.0))

module _ {low high : Problem} (raised : PenaltiesRaised low high) where
  same_allowed : (plan : List ℕ) → is_allowed low plan ≡ is_allowed high plan
  unfolding is_allowed
  same_allowed plan = ap passes (same_plans_pass raised plan)

  -- At the low penalties the one plan costs no more than the other, at the high penalties the other no more than the one.
  found_rise : {tried : List (List ℕ)} {a b : Option (List ℕ)} → Found low tried a → Found high tried b →
      PlansRise low high (all_rises low high) a b
  found_rise (missing none_allowed) (missing likewise) = no_plans
  found_rise (missing none_allowed) (found {plan} listed allowed ahead) = absurd (none_allowed plan listed (same_allowed plan ∙ allowed))
  found_rise (found {plan} listed allowed ahead) (missing none_allowed) = absurd (none_allowed plan listed (sym (same_allowed plan) ∙ allowed))
  found_rise (found {plan} listed allowed ahead) (found {plan = other} listed_too allowed_too ahead_too) =
      let at_low = no_dearer low plan other (ahead other listed_too (same_allowed other ∙ allowed_too)) in
      let at_high = no_dearer high other plan (ahead_too plan listed (sym (same_allowed plan) ∙ allowed)) in
      plans
      plan
      other
      (record {
        no_smaller = omega (arith, at_low, (cost_rises raised other).no_smaller);
        larger_by_at_most = omega (arith, at_high, (cost_rises raised plan).larger_by_at_most);
      })

  same_plans_tried : choice_lists (most_choice low) (task_count low) ≡ choice_lists (most_choice high) (task_count high)
  same_plans_tried = ap₂ choice_lists (same_most_choice raised) (same_task_count raised)

  pub least_cost_rises : PlansRise low high (all_rises low high) (best_plan low) (best_plan high)
  unfolding best_plan
  least_cost_rises =
      let ascend = choice_lists-ascend (most_choice high) (task_count high) in
      rw same_plans_tried (found_rise (first_cheapest-found low ascend) (first_cheapest-found high ascend))
