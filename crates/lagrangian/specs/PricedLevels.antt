-- What an item costs at its levels, the ticks of a job at a price included.
use Rattle.std.specs.Prelude.{◌≡◌, ℕ, ◌+◌, ◌*◌, ◌<◌, ◌≤◌, List, length, slice_index}
use Rattle.assignment.specs.Limits.{most_items, most_levels}
use Rattle.knapsack.specs.Offered.{entry_of}
use Rattle.lagrangian.specs.Lagrangians.{most_priced}
use Rattle.lagrangian.specs.TimedCores.{timing_at}
use Rattle.lagrangian.specs.declared.relaxation.PricedLevel.{PricedLevel}

abbrev pub priced_at : (timings cost : List ℕ) (i price l : ℕ) → ℕ
priced_at timings cost i price l = entry_of cost i l + price * (timing_at timings i).ticks l

-- no more than the item costs at any of its first l levels at which a job has its ticks within its window
pub record Cheapest (i price : ℕ) (timings cost : List ℕ) (l : ℕ) (best : PricedLevel) : Type 0 where
  pub low : best.cost ≤ most_priced
  pub is_level : best.level < most_levels
  pub least : (m : ℕ) → m < l → (timing_at timings i).ticks m ≤ (timing_at timings i).window → best.cost ≤ priced_at timings cost i price m

-- what each of the first i items costs at least
pub record LeastOfEach (levels : ℕ) (timings cost prices : List ℕ) (i : ℕ) (least : List ℕ) : Type 0 where
  pub places : length least ≡ most_items
  pub low : (j : ℕ) → slice_index least j ≤ most_priced
  pub at_most : (j l : ℕ) → j < i → l < levels → (timing_at timings j).ticks l ≤ (timing_at timings j).window →
      slice_index least j ≤ priced_at timings cost j (slice_index prices j) l
