-- What the search finds from a node, and of a set.
use Rattle.std.specs.Prelude.{ℕ, ◌^◌, ◌≤◌, ◌<◌, Bool, true, List, ◌⊎◌, ◌≡◌, length}
use Rattle.assignment.specs.Assignment.{Item}
use Rattle.assignment.specs.CoreTables.{Admitted, pattern_worth}
use Rattle.assignment.specs.Keys.{key_base}
use Rattle.assignment.specs.Limits.{most_core_cost, most_items}
use Rattle.assignment.specs.Sets.{set_number, table_at}
use Rattle.assignment.specs.Keeping.{Keeps}
use Rattle.partition.specs.Tables.{SmallTable}
use Rattle.assignment.specs.Values.{none, AtMost, Least}
use Rattle.assignment.specs.Words.{no_cost}
use Rattle.knapsack.specs.Offered.{offers_of}
use Rattle.values.specs.Worths.{worth_of}
use Rattle.values.specs.declared.value.Worth.{Worth}
use Rattle.lagrangian.specs.Reached.{worth_on, Reached}
use Rattle.lagrangian.specs.TimedCores.{timings_of, timed_options}
use Rattle.lagrangian.specs.declared.Timed.{Timed}
use Rattle.lagrangian.specs.TimedItems.{timed_core}
use Rattle.timed_sets.specs.Exchange.{is_in_order}
use Rattle.timed_sets.specs.LeastReached.{LeastFrom}
use Rattle.timed_parts.specs.declared.Node.{Node}

-- whether a pattern has the items and their partners in order
abbrev pub ordered : Timed → (timings partners pattern : List ℕ) → Bool
ordered timed timings partners = is_in_order (timings_of timings timed.items) partners

-- no more than what stands for none, no real cost above that of a core, and a key with a digit for each item
pub record SmallWorth (timed : Timed) (worth : Worth) : Type 0 where
  pub at_most_none : worth.cost ≤ no_cost
  pub real : worth.cost < no_cost → worth.cost ≤ most_core_cost
  pub digits : worth.key < key_base ^ timed.items

-- what the front of a node is worth
abbrev pub worth_at : Node → Worth
worth_at node = record { cost = node.cost; key = node.key }

abbrev pub none_yet : Worth
none_yet = record { cost = no_cost; key = 0 }

-- the least of the best so far and of what is reached from the node in order; it may be what is reached out of order
pub record FoundFrom (timed : Timed) (timings cost partners : List ℕ) (node : Node) (q : List ℕ) (T : List Bool) (best r : Worth) : Type 0 where
  pub least : LeastFrom (ordered timed timings partners) (timed_core timed timings cost) q T node.level (worth_of best) (worth_of r)

-- none, or the value of one admitted pattern that goes on from the node
pub record OneFrom (timed : Timed) (timings cost : List ℕ) (q : List ℕ) (T : List Bool) (r : Worth) : Type 0 where
  pub one : (worth_of r ≡ none) ⊎ Reached (timed_core timed timings cost) q T 0 (worth_of r)

-- a table of values that no admitted pattern of their sets comes before
pub record LowerTimed (timed : Timed) (timings cost low_costs low_keys : List ℕ) : Type 0 where
  pub few_items : timed.items ≤ most_items
  pub small : SmallTable timed.items most_core_cost low_costs low_keys
  pub lower : (S : List Bool) → length S ≡ timed.items → (pattern : List ℕ) → Keeps timed.levels S pattern →
      (timed_core timed timings cost).admits pattern ≡ true →
      AtMost (table_at timed.items low_costs low_keys S) (worth_on (timed_core timed timings cost) pattern)

-- the least value of the set, whatever the cores, the loads and the refusals are
pub record LeastInTime (timed : Timed) (set : ℕ) (timings cost : List ℕ) (r : Worth) : Type 0 where
  pub least : (cores : ℕ) (load : List ℕ) (items : List Item) (S : List Bool) → length S ≡ timed.items → set_number timed.items S ≡ set →
      let o = timed_options cores timed.levels timed.span (timings_of timings timed.items) (offers_of load cost timed.items) items in
      Least (Admitted o S) (pattern_worth o) (worth_of r)
  pub small : SmallWorth timed r

-- a value that no admitted pattern of the set comes before
pub record LowerInTime (timed : Timed) (set : ℕ) (timings cost : List ℕ) (r : Worth) : Type 0 where
  pub lower : (S : List Bool) → length S ≡ timed.items → set_number timed.items S ≡ set → (pattern : List ℕ) → Keeps timed.levels S pattern →
      (timed_core timed timings cost).admits pattern ≡ true → AtMost (worth_of r) (worth_on (timed_core timed timings cost) pattern)

-- what a search up to a limit finds: the least value of the set; or the limit, where nothing comes before it
pub data FoundUpTo (timed : Timed) (set : ℕ) (timings cost : List ℕ) (most r : Worth) : Type 0 where
  is_least : LeastInTime timed set timings cost r → FoundUpTo timed set timings cost most r
  is_limit : worth_of r ≡ worth_of most → LowerInTime timed set timings cost r → FoundUpTo timed set timings cost most r

-- what an admitted pattern of the set is worth
pub record OneInTime (timed : Timed) (set : ℕ) (timings cost : List ℕ) (r : Worth) : Type 0 where
  pub one : (S : List Bool) → length S ≡ timed.items → set_number timed.items S ≡ set →
      (pattern : List ℕ) × (Keeps timed.levels S pattern × ((timed_core timed timings cost).admits pattern ≡ true))
      × (worth_of r ≡ worth_on (timed_core timed timings cost) pattern)

-- no admitted pattern of the set costs less
pub record NoneCheaper (timed : Timed) (set : ℕ) (timings cost : List ℕ) (c : ℕ) : Type 0 where
  pub none_cheaper : (S : List Bool) → length S ≡ timed.items → set_number timed.items S ≡ set → (pattern : List ℕ) → Keeps timed.levels S pattern →
      (timed_core timed timings cost).admits pattern ≡ true → c ≤ (timed_core timed timings cost).cost pattern

-- what a search up to a limit finds that looks for costs alone: the least cost of the set; or the limit, where nothing is cheaper
pub data CostUpTo (timed : Timed) (set : ℕ) (timings cost : List ℕ) (most r : Worth) : Type 0 where
  least_cost : OneInTime timed set timings cost r → NoneCheaper timed set timings cost r.cost → CostUpTo timed set timings cost most r
  limit_cost : worth_of r ≡ worth_of most → NoneCheaper timed set timings cost r.cost → CostUpTo timed set timings cost most r
