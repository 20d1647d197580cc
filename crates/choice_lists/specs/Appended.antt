-- The choices for a set with one item more, written as they come behind the entries of a list.
use Rattle.std.specs.Prelude.{ℕ, suc, ◌+◌, ◌*◌, ◌-◌, ◌≤◌, ◌<◌, ◌≡◌, List, length}
use Rattle.choice_lists.specs.Listed.{point_at, least_listed, PointSmall}
use Rattle.knapsack.specs.Offered.{offer_at}
use Rattle.knapsack.specs.Knapsacks.{at_level}
use Rattle.choice_lists.specs.Spread.{least_sums, Sound, SumsSmall, ItemFits}
use Rattle.choice_lists.specs.Sweep.{Older}
use Rattle.assignment.specs.Values.{Value, pair, least_below}
use Rattle.knapsack.specs.declared.relaxing.Choice.{Choice}
use Rattle.knapsack.specs.declared.relaxing.Front.{Front}

-- there is room for a choice with each of the entries from `from` to `to`, behind the first `start` entries
pub record LevelRoom (capacity : ℕ) (choice : Choice) (from to start : ℕ) (points : List Choice) : Type 0 where
  pub sums : SumsSmall capacity choice from to points
  pub behind : to ≤ start
  pub room : start + (to - from) ≤ length points

-- the sums of a choice with the entries from `from` to `to` are those from `start` to `end`, but for sums above the capacity
pub record LevelAppended (capacity : ℕ) (choice : Choice) (from to start : ℕ) (points₀ points : List Choice) (end : ℕ) : Type 0 where
  pub older : Older start points₀ points
  pub ordered : start ≤ end
  pub few : end ≤ start + (to - from)
  pub least : (rest : ℕ → Value) (w : ℕ) → w ≤ capacity →
      least_listed points start (end - start) rest w ≡ least_sums choice points₀ from (to - from) rest w
  pub small : (n places : ℕ) →
      ((p : ℕ) → from ≤ p → p < to →
      Sound n places (pair (choice.cost + (point_at points₀ p).cost) (choice.key + (point_at points₀ p).key))) →
      (p : ℕ) → start ≤ p → p < end → PointSmall capacity n places (point_at points p)

-- there is room for an item at every level before the entries from `from` to `to`, behind the first `used` entries
pub record ItemRoom (front : Front) (from to used : ℕ) (load cost : List ℕ) (points : List Choice) : Type 0 where
  pub item : ItemFits front from to load cost points
  pub behind : to ≤ used
  pub room : used + front.core.levels * (to - from) ≤ length points

-- the item's first l levels before the entries from `from` to `to` are the entries from `used` to `end`
pub record ItemAppended (front : Front) (from to used : ℕ) (load cost : List ℕ) (points₀ : List Choice) (l : ℕ) (points : List Choice)
    (end : ℕ) : Type 0 where
  pub older : Older used points₀ points
  pub ordered : used ≤ end
  pub few : end ≤ used + l * (to - from)
  pub least : (rest : ℕ → Value) (w : ℕ) → w ≤ front.core.capacity →
      least_listed points used (end - used) rest w
      ≡ least_below l (at_level (offer_at load cost front.item) front.places (least_listed points₀ from (to - from) rest) w)
  pub small : (n places : ℕ) → n + places ≡ front.places →
      ((p : ℕ) → from ≤ p → p < to → PointSmall front.core.capacity n places (point_at points₀ p)) →
      (p : ℕ) → used ≤ p → p < end → PointSmall front.core.capacity (suc n) places (point_at points p)
