-- The entries that come before all of smaller load, gathered to a list, one load after the other.
use Rattle.std.specs.Prelude.{ℕ, ◌+◌, ◌-◌, ◌≤◌, ◌<◌, ◌≡◌, List, length}
use Rattle.choice_lists.specs.Listed.{Falling, point_at, least_listed, PointSmall, Listed}
use Rattle.choice_lists.specs.Spread.{value_before, spread_at, least_spread, AllSound}
use Rattle.assignment.specs.Values.{Value, least_below, AtMost}
use Rattle.assignment.specs.Words.{no_cost}
use Rattle.values.specs.Worths.{worth_of}
use Rattle.knapsack.specs.declared.relaxing.Choice.{Choice}
use Rattle.values.specs.declared.value.Worth.{Worth}

-- the entry of load u as a choice
abbrev pub spread_choice : ℕ → Worth → Choice
spread_choice u worth = record { load = u; cost = worth.cost; key = worth.key }

-- entries below `used` are as they were
pub record Older (used : ℕ) (points₀ points : List Choice) : Type 0 where
  pub same_length : length points ≡ length points₀
  pub as_before : (i : ℕ) → i < used → point_at points i ≡ point_at points₀ i

-- the loads below u are gathered in the entries from `from` to `to`, and `best` is the last of these
pub record Gathered (capacity from u : ℕ) (spread : List Worth) (points₀ points : List Choice) (best : Worth) (to : ℕ) : Type 0 where
  pub older : Older from points₀ points
  pub ordered : from ≤ to
  pub few : to ≤ from + u
  pub none_yet : no_cost ≤ best.cost → (best.cost ≡ no_cost) × (best.key ≡ 0)
  pub least : (rest : ℕ → Value) → Falling capacity rest → (w : ℕ) → w ≤ capacity →
      least_listed points from (to - from) rest w ≡ least_below u (λ v. value_before v (spread_at spread v) rest w)
  pub passed : (rest : ℕ → Value) → Falling capacity rest → (w : ℕ) → w ≤ capacity →
      AtMost (least_listed points from (to - from) rest w) (value_before u (worth_of best) rest w)
  pub small : (n places : ℕ) → AllSound capacity n places spread → (p : ℕ) → from ≤ p → p < to →
      PointSmall capacity n places (point_at points p)

-- the entries from `from` to `to` have before any knapsack the least value of the spread ones
pub record Swept (capacity from : ℕ) (spread : List Worth) (points₀ points : List Choice) (to : ℕ) : Type 0 where
  pub older : Older from points₀ points
  pub listed : (n places : ℕ) → AllSound capacity n places spread →
      Listed capacity n places (least_spread capacity spread) points from to
