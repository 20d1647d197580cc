-- Every choice of levels for a set of items in front of others, as a list from which only choices are left out that another
-- beats, whatever stands behind.
use Rattle.std.specs.Prelude.{ℕ, suc, ◌+◌, ◌*◌, ◌-◌, ◌^◌, ◌≤◌, ◌<◌, ◌≡◌, cond, List, leb, length, get_or, take, drop}
use Rattle.assignment.specs.Limits.{most_cost}
use Rattle.knapsack.specs.Offered.{offer_at}
use Rattle.assignment.specs.Keys.{key_base}
use Rattle.knapsack.specs.KnapsackSteps.{knapsack_before}
use Rattle.assignment.specs.Values.{Value, none, pair, add, least_below, AtMost}
use Rattle.knapsack.specs.declared.relaxing.Choice.{Choice}
use Rattle.knapsack.specs.declared.relaxing.Core.{Core}

-- a choice before a knapsack, in load at most w: none where its own load is above w
unfoldable pub before : Choice → (ℕ → Value) → ℕ → Value
before choice rest w = cond (leb choice.load w) (add (pair choice.cost choice.key) (rest (w - choice.load))) none

-- a knapsack in which more room is no worse
pub record Falling (capacity : ℕ) (rest : ℕ → Value) : Type 0 where
  pub no_worse : (u w : ℕ) → u ≤ w → w ≤ capacity → AtMost (rest w) (rest u)

-- the choice of nothing
abbrev pub nothing : Choice
nothing = record { load = 0; cost = 0; key = 0 }

-- entry p of a list
abbrev pub point_at : List Choice → ℕ → Choice
point_at points p = get_or points p nothing

-- the entries from `from` to `to` alone
abbrev pub part : List Choice → (from to : ℕ) → List Choice
part points from to = take (to - from) (drop from points)

-- the least of `count` entries, from the entry `from` on, before a knapsack
unfoldable pub least_listed : List Choice → ℕ → ℕ → (ℕ → Value) → ℕ → Value
least_listed points from count rest w = least_below count (λ i. before (point_at points (from + i)) rest w)

-- a choice of n items in front of `places` others
pub record PointSmall (capacity n places : ℕ) (point : Choice) : Type 0 where
  pub fits : point.load ≤ capacity
  pub cheap : point.cost ≤ n * most_cost
  -- with any key of the others it has no more digits than the items
  pub digits : point.key + key_base ^ places ≤ key_base ^ (n + places)

-- before any knapsack in which more room is no worse, the entries from `from` to `to` have the least value f
pub record Listed (capacity n places : ℕ) (f : (ℕ → Value) → ℕ → Value) (points : List Choice) (from to : ℕ) : Type 0 where
  pub ordered : from ≤ to
  pub there : to ≤ length points
  pub least : (rest : ℕ → Value) → Falling capacity rest → (w : ℕ) → w ≤ capacity → least_listed points from (to - from) rest w ≡ f rest w
  pub small : (p : ℕ) → from ≤ p → p < to → PointSmall capacity n places (point_at points p)

-- the sets with numbers below `upto` of the n items from `first` on are listed, one after the other, set number k from entry
-- `starts` k on
pub record SetsListed (core : Core) (load cost : List ℕ) (first n places upto : ℕ) (points : List Choice) (starts : List ℕ) : Type 0 where
  pub starts_there : upto < length starts
  pub each : (k : ℕ) → k < upto →
      Listed core.capacity n places (knapsack_before core.levels (λ i. offer_at load cost (first + i)) n places k) points
      (get_or starts k 0) (get_or starts (suc k) 0)

-- all sets of the first n items, in front of `places` others
abbrev pub FrontListed : Core → (load cost : List ℕ) (n places : ℕ) (points : List Choice) (starts : List ℕ) → Type 0
FrontListed core load cost n places = SetsListed core load cost 0 n places (2 ^ n)
