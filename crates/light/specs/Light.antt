-- Light sites: what picking item after item asks, and what is known of the choices that were picked.
use Rattle.std.specs.Prelude.{ℕ, ◌+◌, ◌*◌, ◌≤◌, ◌<◌, ◌≡◌, Bool, List, length, get_or}
use Rattle.assignment.specs.Assignment.{refused_cost}
use Rattle.assignment.specs.Keys.{plan_key}
use Rattle.assignment.specs.Limits.{most_items, most_cost}
use Rattle.knapsack.specs.Offers.{pattern_load, pattern_cost}
use Rattle.knapsack.specs.Offered.{offers_of, Affordable}
use Rattle.values.specs.Items.{items_of}
use Rattle.light.specs.CheapestChoices.{CheapestChoices}

-- loads, costs and refusals of n items within the limits
pub record OfferFits (n levels capacity : ℕ) (load cost refusal : List ℕ) (must : List Bool) : Type 0 where
  pub items_limited : n ≤ most_items
  pub affordable : Affordable n levels capacity load cost
  pub refusals_for_all : n ≤ length refusal
  pub musts_for_all : n ≤ length must
  pub refusals_limited : (i : ℕ) → i < n → get_or refusal i 0 ≤ most_cost

-- the first cheapest choices of the first i items: their load on core 0, their cost and their key
pub record LightBelow (levels capacity : ℕ) (load cost refusal : List ℕ) (must : List Bool) (i used total key : ℕ) : Type 0 where
  pub plan : List ℕ
  pub cheapest : CheapestChoices levels capacity (offers_of load cost i) (items_of refusal must i) plan
  pub load_is : pattern_load (offers_of load cost i) plan ≡ used
  pub cost_is : pattern_cost (offers_of load cost i) plan + refused_cost (items_of refusal must i) plan ≡ total
  pub key_is : plan_key plan ≡ key
  pub used_low : used ≤ capacity
  pub total_low : total ≤ i * most_cost
