-- What listing all sets asks for: those without an item are listed, and with it the sets that have it.
use Rattle.std.specs.Prelude.{ℕ, suc, ◌+◌, ◌*◌, ◌-◌, ◌^◌, ◌≤◌, ◌<◌, ◌≡◌, List, length}
use Rattle.choice_lists.specs.Listed.{point_at, least_listed, PointSmall, Listed, SetsListed}
use Rattle.assignment.specs.Limits.{most_items}
use Rattle.knapsack.specs.Offered.{offer_at, Affordable}
use Rattle.assignment.specs.Keys.{key_base}
use Rattle.knapsack.specs.KnapsackSteps.{with_item}
use Rattle.choice_lists.specs.Spread.{ItemFits}
use Rattle.choice_lists.specs.Sweep.{Older}
use Rattle.knapsack.specs.declared.relaxing.Core.{Core}
use Rattle.knapsack.specs.declared.relaxing.Front.{Front}
use Rattle.knapsack.specs.declared.relaxing.Choice.{Choice}

-- so many entries are written as they come
abbrev pub most_short : ℕ
most_short = 256

-- an item before the entries from `from` to `to` makes no more
abbrev pub Short : Core → (from to : ℕ) → Type 0
Short core from to = core.levels * (to - from) ≤ most_short

-- its list has at most so many entries
pub record Enough (core : Core) (from to most : ℕ) : Type 0 where
  pub short : Short core from to → core.levels * (to - from) ≤ most
  pub long : ¬ (Short core from to) → core.capacity < most

-- there is room for another list behind the first `used` entries
pub record SetFits (front : Front) (from to used : ℕ) (load cost : List ℕ) (points : List Choice) : Type 0 where
  pub item : ItemFits front from to load cost points
  pub behind : to ≤ used
  pub there : used ≤ length points
  pub room : Enough front.core from to (length points - used)

-- the item before the list from `from` to `to` is listed from `used` to `end`
pub record SetAdded (front : Front) (from to used : ℕ) (load cost : List ℕ) (points₀ points : List Choice) (end : ℕ) : Type 0 where
  pub older : Older used points₀ points
  pub listed : (n places : ℕ) → n + places ≡ front.places →
      ((p : ℕ) → from ≤ p → p < to → PointSmall front.core.capacity n places (point_at points₀ p)) →
      Listed front.core.capacity (suc n) places
      (λ rest. with_item front.core.levels (offer_at load cost front.item) front.places (least_listed points₀ from (to - from) rest))
      points used end

-- an item in front of `count` others and the `places` behind these, and room for where the lists of all sets of these and
-- the item start
pub record SetsRoom (front : Front) (count : ℕ) (load cost starts : List ℕ) : Type 0 where
  pub affordable : Affordable (suc front.item) front.core.levels front.core.capacity load cost
  pub places_limited : front.places < most_items
  pub digit_is : front.digit ≡ key_base ^ front.places
  pub count_behind : count ≤ front.places
  pub starts_long : 2 ^ suc count < length starts

-- the sets without the item are listed
abbrev pub Without : Front → ℕ → (load cost : List ℕ) (points : List Choice) (starts : List ℕ) → Type 0
Without front count load cost =
    SetsListed front.core load cost (suc front.item) count (front.places - count) (2 ^ count)

-- and those with it
abbrev pub WithItem : Front → ℕ → (load cost : List ℕ) (points : List Choice) (starts : List ℕ) → Type 0
WithItem front count load cost =
    SetsListed front.core load cost front.item (suc count) (front.places - count) (2 ^ suc count)

pub record SetsFit (front : Front) (count : ℕ) (load cost : List ℕ) (points : List Choice) (starts : List ℕ) : Type 0 where
  pub room : SetsRoom front count load cost starts
  pub behind : Without front count load cost points starts

-- the sets without the item, and k of those with it
pub record SetsGoing (front : Front) (count : ℕ) (load cost : List ℕ) (k : ℕ) (points : List Choice) (starts : List ℕ) : Type 0 where
  pub behind : Without front count load cost points starts
  pub sofar : SetsListed front.core load cost front.item (suc count) (front.places - count) (2 ^ count + k) points starts

pub record NextSetFits (front : Front) (count k : ℕ) (load cost : List ℕ) (points : List Choice) (starts : List ℕ) : Type 0 where
  pub room : SetsRoom front count load cost starts
  pub going : SetsGoing front count load cost k points starts
  pub there : k < 2 ^ count
