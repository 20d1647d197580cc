-- Pricing ends as demand 1 has it.
use Rattle.refusals.specs.declared.Refusal.{Refusal}
use Rattle.std.specs.Prelude.{ℕ, List, [], ◌∷◌, ◌≡◌, Result}
use mathlib.Core.List.Memᴰ
use Rattle.refusals.specs.EndingLaws.{serves, turns_down}
use Rattle.refusals.specs.Endings.{Ends, read_then}
use Rattle.instance.specs.Node.{Problem}
use Rattle.refusals.specs.RefusalNumbers.{RefusesOnly, accepts, refuses, UnreadOnly, read, unread}
use Rattle.refusals.specs.Refusals.{Reading, Verdict, verdict_of}
use Rattle.instance.specs.SiteFileRefusals.{reading_refuses_2_3_4}
use Rattle.prices.specs.Outcomes.{price_outcome, price_outcome_of, priced_if, PricingEnds}
use Rattle.plan_rules.specs.Plans.{plan_passes}
use Rattle.prices.specs.Prices.{price_of}
use Rattle.plan_rules.specs.RefusalLaws.{plan_refuses_7_8}
use Rattle.prices.specs.declared.amounts.Price.{Price}

pub pricing_ends : (words plan : List ℕ) → PricingEnds words plan (price_outcome words plan)
unfolding price_outcome plan_passes
pricing_ends words plan = go (reading_refuses_2_3_4 words)
  where
    priced : (price : Price) {v : Verdict} → RefusesOnly (7 ∷ 8 ∷ []) v →
        Ends v (2 ∷ 3 ∷ 4 ∷ 7 ∷ 8 ∷ []) [] (verdict_of (priced_if v price))
    priced price accepts = serves tt
    priced price (refuses m) = turns_down (Memᴰ.append_right (2 ∷ 3 ∷ 4 ∷ []) m) tt

    go : {reading : Reading Problem} → UnreadOnly (2 ∷ 3 ∷ 4 ∷ []) reading →
        Ends (read_then reading (λ p. plan_passes p plan)) (2 ∷ 3 ∷ 4 ∷ 7 ∷ 8 ∷ []) [] (verdict_of (price_outcome_of reading plan))
    go (read p) = priced (price_of p plan) (plan_refuses_7_8 p plan)
    go (unread m) = turns_down (Memᴰ.append_left (7 ∷ 8 ∷ []) m) tt

-- what the contract says of an answer
pub price_is_promised : (words plan : List ℕ) (answer : Result Price Refusal) → answer ≡ price_outcome words plan →
    (answer ≡ price_outcome words plan) × PricingEnds words plan answer
price_is_promised words plan answer e = (e, rw e (pricing_ends words plan))
