-- The plan that is answered: "Among the plans that refuse no task that may not be refused and whose cores all fit, the
-- planner answers the one of least cost; among equal costs the one whose first differing choice, in task order, is
-- smaller." Every plan is tried, in choice order, and the first of least cost is kept.
use Rattle.std.specs.Prelude.{ℕ, zero, suc, Bool, true, false, cond, List, [], ◌∷◌, map, leb, Ok, Err}
use Rattle.std.proofs.Math.Option.{Option, none, some}
use Rattle.laws.specs.Lists.{joined}
use Rattle.instance.specs.Node.{Problem, task_count}
use Rattle.refusals.specs.Refusals.{Verdict}
use Rattle.plan_rules.specs.Plans.{most_choice, plan_passes}
use Rattle.prices.specs.Prices.{cost}

-- every list of n choices from 0 to `most`, the smaller first differing choice first
unfoldable pub choice_lists : ℕ → ℕ → List (List ℕ)
choice_lists most zero = [] ∷ []
choice_lists most (suc n) =
    let rest = choice_lists most n in joined (λ c. map (λ choices. c ∷ choices) rest) (suc most)

abbrev pub passes : Verdict → Bool
passes (Ok tt) = true
passes (Err r) = false

unfoldable pub is_allowed : Problem → List ℕ → Bool
is_allowed p plan = passes (plan_passes p plan)

-- of a plan and the best of those after it, the better: the plan itself where costs are equal
unfoldable pub better : Problem → List ℕ → Option (List ℕ) → Option (List ℕ)
better p plan none = some plan
better p plan (some other) = cond (leb (cost p plan) (cost p other)) (some plan) (some other)

-- of the allowed plans in a list, the first of least cost
unfoldable pub first_cheapest : Problem → List (List ℕ) → Option (List ℕ)
first_cheapest p [] = none
first_cheapest p (plan ∷ plans) =
    let best = first_cheapest p plans in cond (is_allowed p plan) (better p plan best) best

unfoldable pub best_plan : Problem → Option (List ℕ)
best_plan p = first_cheapest p (choice_lists (most_choice p) (task_count p))
