-- The whole outcome of pricing, for every list of words, and how a call ends. "Order: words are taken from the front, each
-- tested for 2, 3, 4; .. then 7 (length before choices); then 8."
use Rattle.refusals.specs.declared.Refusal.{Refusal}
use Rattle.std.specs.Prelude.{ℕ, List, [], ◌∷◌, Result, Ok, Err}
use Rattle.refusals.specs.Endings.{Ends, read_then}
use Rattle.instance.specs.Node.{Problem}
use Rattle.refusals.specs.Refusals.{Reading, ◌and_then◌, Verdict, accepted, verdict_of}
use Rattle.instance.specs.SiteFile.{problem_of}
use Rattle.plan_rules.specs.Plans.{choices_pass, cores_fit, plan_passes}
use Rattle.prices.specs.Prices.{price_of}
use Rattle.prices.specs.declared.amounts.Price.{Price}

-- "Pricing and tabling test 7 and 8."
abbrev pub priced_if : Verdict → Price → Result Price Refusal
priced_if (Ok tt) price = Ok price
priced_if (Err r) price = Err r

abbrev pub price_outcome_of : Reading Problem → List ℕ → Result Price Refusal
price_outcome_of (Err r) plan = Err r
price_outcome_of (Ok p) plan = priced_if (plan_passes p plan) (price_of p plan)

unfoldable pub price_outcome : List ℕ → List ℕ → Result Price Refusal
price_outcome words plan = price_outcome_of (problem_of words) plan

-- "Pricing and tabling test 7 and 8."
abbrev pub PricingEnds : List ℕ → List ℕ → Result Price Refusal → Type 0
PricingEnds words plan answer =
    Ends
    (read_then (problem_of words) (λ p. choices_pass p plan and_then cores_fit p plan))
    (2 ∷ 3 ∷ 4 ∷ 7 ∷ 8 ∷ [])
    []
    (verdict_of answer)
