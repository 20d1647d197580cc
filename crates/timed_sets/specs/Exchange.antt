-- Items that are alike but for their windows. Exchanging their levels in a pattern keeps its set and its cost, so a search needs only the
-- patterns in which they stand in order: for keys too where no partner is due sooner, else for costs alone.
use Rattle.std.specs.Prelude.{ℕ, zero, suc, ◌+◌, ◌-◌, ◌*◌, ◌/◌, ◌%◌, ◌^◌, ◌≤◌, ◌<◌, Bool, false, not, ◌&&◌, ◌||◌, List, ◌⊎◌, ◌≡◌, leb, ltb, length, get_or, set}
use Rattle.laws.specs.Lists.{list_of}
use Rattle.laws.specs.Search.{every}
use Rattle.ranges.specs.Limits.{most_period}
use Rattle.assignment.specs.Keys.{key_base}
use Rattle.assignment.specs.Limits.{most_items}
use Rattle.knapsack.specs.Offered.{entry_of}
use Rattle.knapsack.specs.Offers.{Offer, pattern_cost}
use Rattle.lagrangian.specs.TimedCores.{Timing, entry_ticks, timing_at, timing_in}
use Rattle.lagrangian.specs.declared.Timed.{Timed}
use Rattle.timed_parts.specs.declared.Node.{Node}

-- items j and i have the same ticks of a job and the same cost at each of the first k levels
pub record SameLevels (timings cost : List ℕ) (k j i : ℕ) : Type 0 where
  pub ticks : (l : ℕ) → l < k → (timing_at timings j).ticks l ≡ (timing_at timings i).ticks l
  pub costs : (l : ℕ) → l < k → entry_of cost j l ≡ entry_of cost i l

-- item j comes before item i; all but their windows is the same
pub record Partner (timed : Timed) (timings cost : List ℕ) (j i : ℕ) : Type 0 where
  pub earlier : j < i
  pub same_period : (timing_at timings j).period ≡ (timing_at timings i).period
  pub same_levels : SameLevels timings cost timed.levels j i

-- of each of the first n items: 1 + the index of a partner, or 0
pub record Partners (timed : Timed) (timings cost : List ℕ) (n : ℕ) (partners : List ℕ) : Type 0 where
  pub places : length partners ≡ most_items
  pub partner : (i j : ℕ) → i < n → get_or partners i 0 ≡ suc j → Partner timed timings cost j i

-- every partner of one of the first n items is due no sooner than the item
pub record DueNoSooner (timings : List ℕ) (n : ℕ) (partners : List ℕ) : Type 0 where
  pub no_sooner : (i j : ℕ) → i < n → get_or partners i 0 ≡ suc j → (timing_at timings i).window ≤ (timing_at timings j).window

-- item j is due no sooner and runs at a higher level, with no more ticks of a job: exchanged, the two make a smaller key
pub record HigherFirst (timings : List Timing) (pattern : List ℕ) (j i : ℕ) : Type 0 where
  pub due_no_sooner : (timing_in timings i).window ≤ (timing_in timings j).window
  pub higher : get_or pattern i 0 < get_or pattern j 0
  pub no_more_ticks : entry_ticks (timing_in timings j) (get_or pattern j 0) ≤ entry_ticks (timing_in timings i) (get_or pattern i 0)

-- item j is due sooner and has more ticks of a job: exchanged, it has fewer
pub record LongerFirst (timings : List Timing) (pattern : List ℕ) (j i : ℕ) : Type 0 where
  pub due_sooner : (timing_in timings j).window < (timing_in timings i).window
  pub more_ticks : entry_ticks (timing_in timings i) (get_or pattern i 0) < entry_ticks (timing_in timings j) (get_or pattern j 0)

-- items j and i both run, and are to be exchanged
pub record OutOfOrder (timings : List Timing) (pattern : List ℕ) (j i : ℕ) : Type 0 where
  pub runs : 0 < get_or pattern i 0
  pub turned : HigherFirst timings pattern j i ⊎ LongerFirst timings pattern j i

-- the same of the next item of a node, at the node's level: its partner's choice is a digit of the key
pub record LevelHigherFirst (timings : List ℕ) (node : Node) (partner : ℕ) : Type 0 where
  pub due_no_sooner : (timing_at timings node.item).window ≤ (timing_at timings partner).window
  pub higher : node.level + 1 < node.key / key_base ^ (node.item - suc partner) % key_base
  pub no_more_ticks : get_or node.ticks partner 0 ≤ (timing_at timings node.item).ticks node.level

pub record LevelLongerFirst (timings : List ℕ) (node : Node) (partner : ℕ) : Type 0 where
  pub due_sooner : (timing_at timings partner).window < (timing_at timings node.item).window
  pub more_ticks : (timing_at timings node.item).ticks node.level < get_or node.ticks partner 0

pub record LevelOutOfOrder (timings partners : List ℕ) (node : Node) : Type 0 where
  pub partner : ℕ
  pub is_partner : get_or partners node.item 0 ≡ suc partner
  pub turned : LevelHigherFirst timings node partner ⊎ LevelLongerFirst timings node partner

-- why a search does not run a node's item at the node's level
pub data NotRun (timings partners : List ℕ) (node : Node) : Type 0 where
  too_long : (timing_at timings node.item).window < (timing_at timings node.item).ticks node.level → NotRun timings partners node
  out_of_order : LevelOutOfOrder timings partners node → NotRun timings partners node

-- whether an item is so with the partner that its entry names
unfoldable pub is_higher_first : List Timing → (pattern : List ℕ) → (j i : ℕ) → Bool
is_higher_first timings pattern j i =
    leb (timing_in timings i).window (timing_in timings j).window
    && (ltb (get_or pattern i 0) (get_or pattern j 0)
    && leb (entry_ticks (timing_in timings j) (get_or pattern j 0)) (entry_ticks (timing_in timings i) (get_or pattern i 0)))

unfoldable pub is_longer_first : List Timing → (pattern : List ℕ) → (j i : ℕ) → Bool
is_longer_first timings pattern j i =
    ltb (timing_in timings j).window (timing_in timings i).window
    && ltb (entry_ticks (timing_in timings i) (get_or pattern i 0)) (entry_ticks (timing_in timings j) (get_or pattern j 0))

unfoldable pub is_out_of_order : List Timing → (pattern : List ℕ) → (partner i : ℕ) → Bool
is_out_of_order timings pattern zero i = false
is_out_of_order timings pattern (suc j) i = ltb 0 (get_or pattern i 0) && (is_higher_first timings pattern j i || is_longer_first timings pattern j i)

-- whether no item is
unfoldable pub is_in_order : List Timing → (partners pattern : List ℕ) → Bool
is_in_order timings partners pattern = every (λ i. not (is_out_of_order timings pattern (get_or partners i 0) i)) (length timings)

-- the pattern with the entries of two items exchanged
unfoldable pub exchanged : List ℕ → (j i : ℕ) → List ℕ
exchanged pattern j i = set (set pattern j (get_or pattern i 0)) i (get_or pattern j 0)

-- what the ticks of the jobs of a pattern weigh, those that are due sooner more
unfoldable pub urgency_of : (timings : List ℕ) → ℕ → Offer
urgency_of timings i =
    record { load = λ l. 0; cost = λ l. (timing_at timings i).ticks l * (most_period - (timing_at timings i).window) }

abbrev pub urgency : Timed → (timings pattern : List ℕ) → ℕ
urgency timed timings = pattern_cost (list_of (urgency_of timings) timed.items)
