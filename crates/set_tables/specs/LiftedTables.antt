-- A table whose entries are raised to what a Lagrangian relaxation of a core says of their sets.
use Rattle.std.specs.Prelude.{ℕ, ◌+◌, ◌^◌, ◌≤◌, ◌<◌, Bool, List, ◌⊎◌, ◌≡◌, length, get_or}
use Rattle.assignment.specs.Keys.{weight}
use Rattle.assignment.specs.Limits.{most_core_cost, most_items}
use Rattle.assignment.specs.Sets.{set_number}
use Rattle.partition.specs.Tables.{SmallTable}
use Rattle.lagrangian.specs.Lagrangians.{least_priced, most_budget, most_priced}
use Rattle.lagrangian.specs.declared.Lagrangian.{Lagrangian}

-- the second half of the sets of one item more: the first x of them have what those without the item have, and the amount
pub record AddedBelow (half amount x : ℕ) (before after : List ℕ) : Type 0 where
  pub same : (y : ℕ) → y < half → get_or after y 0 ≡ get_or before y 0
  pub more : (y : ℕ) → y < x → get_or after (half + y) 0 ≡ get_or before y 0 + amount

-- what adding an item asks
pub record RoomToAdd (half amount : ℕ) (sums : List ℕ) : Type 0 where
  pub places : half + half ≤ length sums
  pub fits : (y : ℕ) → y < half → get_or sums y 0 + amount < 2 ^ 64

-- what an item adds to a sum at most, so that all items come to less than 2^64: 2^60
abbrev pub most_amount : ℕ
most_amount = 1152921504606846976

-- what the sums of all sets of n items ask
pub record SumsReady (n : ℕ) (least sums : List ℕ) : Type 0 where
  pub few_items : n ≤ most_items
  pub places : length least ≡ most_items
  pub low : (i : ℕ) → get_or least i 0 ≤ most_amount
  pub sums_for_all : 2 ^ n ≤ length sums
  pub empty : get_or sums 0 0 ≡ 0

-- of each set of n items, by its number, the number f of it
pub record NumberedBy (n : ℕ) (f : List Bool → ℕ) (numbers : List ℕ) : Type 0 where
  pub at : (S : List Bool) → length S ≡ n → get_or numbers (set_number n S) 0 ≡ f S

-- an entry stays, or its cost and the budget are below the sum, and it gets the sum less the budget and its set's least key
pub data LiftedTo (sum least budget cost key new_cost new_key : ℕ) : Type 0 where
  stays : (sum ≤ cost + budget) ⊎ (most_core_cost + budget < sum) → new_cost ≡ cost → new_key ≡ key →
      LiftedTo sum least budget cost key new_cost new_key
  lifted : cost + budget < sum → sum ≤ most_core_cost + budget → new_cost + budget ≡ sum → new_key ≡ least →
      LiftedTo sum least budget cost key new_cost new_key

pub record LiftReady (n : ℕ) (relaxed : Lagrangian) (costs keys : List ℕ) : Type 0 where
  pub few_items : n ≤ most_items
  pub table : SmallTable n most_core_cost costs keys
  pub places : length relaxed.least ≡ most_items
  pub low : (i : ℕ) → get_or relaxed.least i 0 ≤ most_priced
  pub low_budget : relaxed.budget ≤ most_budget

-- the entries of the sets with numbers below x were lifted, the others are as they were
pub record LiftedBelow (n : ℕ) (relaxed : Lagrangian) (x : ℕ) (costs₀ keys₀ costs keys : List ℕ) : Type 0 where
  pub costs_places : length costs ≡ length costs₀
  pub keys_places : length keys ≡ length keys₀
  pub below : (S : List Bool) → length S ≡ n → set_number n S < x →
      LiftedTo (least_priced relaxed.least 0 S) (weight S) relaxed.budget (get_or costs₀ (set_number n S) 0) (get_or keys₀ (set_number n S) 0)
      (get_or costs (set_number n S) 0) (get_or keys (set_number n S) 0)
  pub from_costs : (y : ℕ) → x ≤ y → get_or costs y 0 ≡ get_or costs₀ y 0
  pub from_keys : (y : ℕ) → x ≤ y → get_or keys y 0 ≡ get_or keys₀ y 0
