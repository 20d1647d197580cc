-- What a node of the search holds of the front of a pattern, and the steps from one node to the next.
use Rattle.std.specs.Prelude.{ℕ, ◌+◌, ◌-◌, ◌*◌, ◌^◌, ◌≤◌, ◌<◌, Bool, List, [], ◌≡◌, length, get_or, set}
use Rattle.ranges.specs.Limits.{most_period}
use Rattle.assignment.specs.KeyLaws.{InBase}
use Rattle.assignment.specs.Keys.{key_base, plan_key}
use Rattle.assignment.specs.Limits.{most_cost, most_items, most_levels}
use Rattle.assignment.specs.Sets.{set_number}
use Rattle.assignment.specs.Values.{Value, AtMost}
use Rattle.knapsack.specs.Offered.{offers_of}
use Rattle.knapsack.specs.Offers.{pattern_cost}
use Rattle.values.specs.Worths.{worth_of}
use Rattle.values.specs.declared.value.Worth.{Worth}
use Rattle.lagrangian.specs.Reached.{Reached}
use Rattle.lagrangian.specs.TimedCores.{timing_width, timing_in, timings_of, entry_ticks}
use Rattle.lagrangian.specs.declared.Timed.{Timed}
use Rattle.lagrangian.specs.TimedItems.{timed_core}
use Rattle.timed_parts.specs.declared.Node.{Node}

-- a node with an item to come, small enough for the steps from it
pub record SmallNode (node : Node) : Type 0 where
  pub item : node.item < most_items
  pub level : node.level ≤ most_levels
  pub cost : node.cost ≤ node.item * most_cost
  pub key : node.key < key_base ^ node.item
  pub places : length node.ticks ≡ most_items

-- the node holds the front q of a pattern, with the flags T of the items after it
pub record Stands (timed : Timed) (timings cost : List ℕ) (node : Node) (q : List ℕ) (T : List Bool) : Type 0 where
  pub front : length q ≡ node.item
  pub behind : node.item + length T ≡ timed.items
  pub level : node.level ≤ timed.levels
  pub rest : node.rest ≡ set_number (length T) T
  pub costs : node.cost ≡ pattern_cost (offers_of [] cost timed.items) q
  pub key : node.key ≡ plan_key q
  pub ticks : (j : ℕ) → get_or node.ticks j 0 ≡ entry_ticks (timing_in (timings_of timings timed.items) j) (get_or q j 0)
  pub cheap : node.cost ≤ node.item * most_cost
  pub key_below : node.key < key_base ^ node.item
  pub places : length node.ticks ≡ most_items
  pub short : (j : ℕ) → get_or node.ticks j 0 ≤ most_period
  pub choices : InBase q

abbrev pub passed_over : Node → Node
passed_over node =
    record { item = node.item + 1; level = 0; rest = node.rest; cost = node.cost; key = node.key * key_base; ticks = node.ticks }

abbrev pub run_at : Node → (half ticks cost : ℕ) → Node
run_at node half ticks cost =
    record {
      item = node.item + 1;
      level = 0;
      rest = node.rest - half;
      cost = node.cost + cost;
      key = node.key * key_base + (node.level + 1);
      ticks = set node.ticks node.item ticks;
    }

abbrev pub next_level : Node → Node
next_level node =
    record { item = node.item; level = node.level + 1; rest = node.rest; cost = node.cost; key = node.key; ticks = node.ticks }

abbrev pub at_level : Node → ℕ → Node
at_level node level =
    record { item = node.item; level = level; rest = node.rest; cost = node.cost; key = node.key; ticks = node.ticks }

-- nothing that is reached from the node comes before the best so far
pub record NothingBefore (timed : Timed) (timings cost : List ℕ) (node : Node) (q : List ℕ) (T : List Bool) (best : Worth) : Type 0 where
  pub after : (u : Value) → Reached (timed_core timed timings cost) q T node.level u → AtMost (worth_of best) u

-- one word of each of the first i items' timings
pub record WordColumn (items word : ℕ) (timings : List ℕ) (i : ℕ) (column : List ℕ) : Type 0 where
  pub places : length column ≡ most_items
  pub at : (j : ℕ) → j < i → get_or column j 0 ≡ get_or timings (j * timing_width + word) 0
