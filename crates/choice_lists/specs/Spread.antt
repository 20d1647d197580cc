-- The choices for a set with one item more, spread over their loads: entry u of a slice is the best choice of load u.
use Rattle.std.specs.Prelude.{ℕ, suc, ◌+◌, ◌*◌, ◌-◌, ◌^◌, ◌≤◌, ◌<◌, ◌≡◌, cond, List, leb, length, get_or}
use Rattle.choice_lists.specs.Listed.{before, point_at, least_listed, PointSmall}
use Rattle.assignment.specs.Limits.{most_items, most_capacity, most_cost}
use Rattle.knapsack.specs.Offered.{offer_at, Affordable}
use Rattle.assignment.specs.Keys.{key_base}
use Rattle.knapsack.specs.Knapsacks.{at_level}
use Rattle.assignment.specs.Values.{Value, none, pair, add, lesser, least_below}
use Rattle.assignment.specs.Words.{no_cost}
use Rattle.knapsack.specs.declared.relaxing.Choice.{Choice}
use Rattle.knapsack.specs.declared.relaxing.Front.{Front}
use Rattle.values.specs.Worths.{worth_of}
use Rattle.values.specs.declared.value.Worth.{Worth}

-- a value of load u before a knapsack, in load at most w
unfoldable pub value_before : ℕ → Value → (ℕ → Value) → ℕ → Value
value_before u v rest w = cond (leb u w) (add v (rest (w - u))) none

-- entry u
abbrev pub worth_at : List Worth → ℕ → Worth
worth_at spread u = get_or spread u record { cost = 0; key = 0 }

-- and the value that it stands for
abbrev pub spread_at : List Worth → ℕ → Value
spread_at spread u = worth_of (worth_at spread u)

-- the least entry before a knapsack
unfoldable pub least_spread : ℕ → List Worth → (ℕ → Value) → ℕ → Value
least_spread capacity spread rest w = least_below (suc capacity) (λ u. value_before u (spread_at spread u) rest w)

-- two choices of different items in one
abbrev pub sum_of : Choice → Choice → Choice
sum_of a b = record { load = a.load + b.load; cost = a.cost + b.cost; key = a.key + b.key }

-- that choice fits 64 bits
pub record SumFits (a b : Choice) : Type 0 where
  pub load_fits : a.load + b.load < 2 ^ 64
  pub cost_fits : a.cost + b.cost < 2 ^ 64
  pub key_fits : a.key + b.key < 2 ^ 64

-- the least of a choice with each of some entries of a list
unfoldable pub least_sums : Choice → List Choice → (from count : ℕ) → (ℕ → Value) → ℕ → Value
least_sums choice points from count rest w = least_below count (λ i. before (sum_of choice (point_at points (from + i))) rest w)

-- what n items in front of `places` others may be worth
pub data Sound (n places : ℕ) : Value → Type 0 where
  absent : Sound n places none
  present : (cost key : ℕ) → cost ≤ n * most_cost → key + key_base ^ places ≤ key_base ^ (n + places) →
      Sound n places (pair cost key)

-- every entry up to the capacity is sound
abbrev pub AllSound : (capacity n places : ℕ) → List Worth → Type 0
AllSound capacity n places spread = (u : ℕ) → u ≤ capacity → Sound n places (spread_at spread u)

-- the sums of a choice with the entries of a list fit 64 bits, and stand for no none
pub record SumsSmall (capacity : ℕ) (choice : Choice) (from to : ℕ) (points : List Choice) : Type 0 where
  pub capacity_limited : capacity ≤ most_capacity
  pub ordered : from ≤ to
  pub there : to ≤ length points
  pub choice_fits : choice.load ≤ capacity
  pub point_fits : (p : ℕ) → from ≤ p → p < to → (point_at points p).load ≤ capacity
  pub real : (p : ℕ) → from ≤ p → p < to → choice.cost + (point_at points p).cost < no_cost
  pub digits_fit : (p : ℕ) → from ≤ p → p < to → choice.key + (point_at points p).key < 2 ^ 64

-- every entry was lowered to the sums of its load, of a choice and the entries of a list from `from` to `to`
pub record LevelSpread (capacity : ℕ) (choice : Choice) (from to : ℕ) (points : List Choice) (spread₀ spread : List Worth) : Type 0 where
  pub least : (rest : ℕ → Value) (w : ℕ) → w ≤ capacity →
      least_spread capacity spread rest w
      ≡ lesser (least_spread capacity spread₀ rest w) (least_sums choice points from (to - from) rest w)
  pub sound : (n places : ℕ) → AllSound capacity n places spread₀ →
      ((p : ℕ) → from ≤ p → p < to → Sound n places (pair (choice.cost + (point_at points p).cost) (choice.key + (point_at points p).key))) →
      AllSound capacity n places spread

-- an item is within the limits, and the list is one of the `places` items behind it
pub record ItemFits (front : Front) (from to : ℕ) (load cost : List ℕ) (points : List Choice) : Type 0 where
  pub affordable : Affordable (suc front.item) front.core.levels front.core.capacity load cost
  pub places_limited : front.places < most_items
  pub digit_is : front.digit ≡ key_base ^ front.places
  pub ordered : from ≤ to
  pub there : to ≤ length points
  pub small : (p : ℕ) → from ≤ p → p < to → PointSmall front.core.capacity front.places 0 (point_at points p)

-- no entry up to the capacity
pub record Cleared (capacity : ℕ) (spread : List Worth) : Type 0 where
  pub each : (u : ℕ) → u ≤ capacity → worth_at spread u ≡ record { cost = no_cost; key = 0 }

-- the item's first l levels before the entries of a list
pub record ItemSpread (front : Front) (from to : ℕ) (load cost : List ℕ) (points : List Choice) (l : ℕ) (spread : List Worth) :
    Type 0 where
  pub least : (rest : ℕ → Value) (w : ℕ) → w ≤ front.core.capacity →
      least_spread front.core.capacity spread rest w
      ≡ least_below l (at_level (offer_at load cost front.item) front.places (least_listed points from (to - from) rest) w)
  pub sound : (n places : ℕ) → n + places ≡ front.places →
      ((p : ℕ) → from ≤ p → p < to → PointSmall front.core.capacity n places (point_at points p)) →
      AllSound front.core.capacity (suc n) places spread
