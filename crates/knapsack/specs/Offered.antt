-- What the code is offered: flat slices of loads and costs, eight levels to an item.
use Rattle.std.specs.Prelude.{ℕ, ◌+◌, ◌*◌, ◌≤◌, ◌<◌, List, length, get_or}
use Rattle.laws.specs.Lists.{list_of}
use Rattle.assignment.specs.Limits.{most_levels, most_capacity, most_cost}
use Rattle.knapsack.specs.Offers.{Offer}

-- item i at level l
abbrev pub entry_of : List ℕ → ℕ → ℕ → ℕ
entry_of xs i l = get_or xs (i * most_levels + l) 0

unfoldable pub offer_at : (load cost : List ℕ) → ℕ → Offer
offer_at load cost i = record { load = entry_of load i; cost = entry_of cost i }

-- of the first n items
unfoldable pub offers_of : (load cost : List ℕ) → ℕ → List Offer
offers_of load cost = list_of (offer_at load cost)

-- no level of item i that fits costs more than `most_cost`
abbrev pub CheapAt : (levels capacity : ℕ) (load cost : List ℕ) → ℕ → Type 0
CheapAt levels capacity load cost i = (l : ℕ) → l < levels → entry_of load i l ≤ capacity → entry_of cost i l ≤ most_cost

-- loads and costs of n items within the limits
pub record Affordable (n levels capacity : ℕ) (load cost : List ℕ) : Type 0 where
  pub levels_limited : levels ≤ most_levels
  pub capacity_limited : capacity ≤ most_capacity
  pub loads_for_all : n * most_levels ≤ length load
  pub costs_for_all : n * most_levels ≤ length cost
  pub cheap : (i : ℕ) → i < n → CheapAt levels capacity load cost i
