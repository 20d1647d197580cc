-- A table that has no cost where a set is not served at given ticks of its items.
use Rattle.std.specs.Prelude.{ℕ, ◌+◌, ◌-◌, ◌*◌, ◌^◌, ◌≤◌, ◌<◌, cond, List, ◌⊎◌, ◌≡◌, length, get_or}
use Rattle.assignment.specs.Words.{no_cost}
use Rattle.lagrangian.specs.declared.Timed.{Timed}
use Rattle.timed_parts.specs.TickColumns.{served_at}

-- of so many sets from one on: a cost stays where the set is served, and is none where it is not; the others are as they were
pub record Dropped (timed : Timed) (timings column : List ℕ) (from size : ℕ) (before after : List ℕ) : Type 0 where
  pub places : length after ≡ length before
  pub cost : (y : ℕ) → from ≤ y → y < from + size → get_or after y 0 ≡ cond (served_at timed timings column y) (get_or before y 0) no_cost
  pub others : (y : ℕ) → (y < from) ⊎ (from + size ≤ y) → get_or after y 0 ≡ get_or before y 0

-- so many costs from one on are none, the others are as they were
pub record NoneFrom (from size : ℕ) (before after : List ℕ) : Type 0 where
  pub places : length after ≡ length before
  pub none : (x : ℕ) → x < size → get_or after (from + x) 0 ≡ no_cost
  pub others : (y : ℕ) → (y < from) ⊎ (from + size ≤ y) → get_or after y 0 ≡ get_or before y 0

-- the sets that add some of the items from `item` on to a set which has none of these: each stands in the table
pub record SetsFrom (n item set : ℕ) (costs : List ℕ) : Type 0 where
  pub within : item ≤ n
  pub front : ℕ
  pub none_of_these : set ≡ front * 2 ^ (n - item)
  pub of_items : set + 2 ^ (n - item) ≤ 2 ^ n
  pub costs_for_all : 2 ^ n ≤ length costs
