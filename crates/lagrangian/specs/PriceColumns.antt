-- Columns of jobs and of prices, as the code holds them: an entry for each item.
use Rattle.std.specs.Prelude.{◌≡◌, ℕ, ◌+◌, ◌-◌, ◌*◌, ◌/◌, ◌<◌, ◌≤◌, List, length, slice_index}
use Rattle.ranges.specs.Limits.{most_span}
use Rattle.assignment.specs.Limits.{most_items}
use Rattle.lagrangian.specs.Lagrangians.{most_price}
use Rattle.lagrangian.specs.TimedCores.{Timing, timing_at}

-- 2^40
abbrev pub most_weight : ℕ
most_weight = 1099511627776

-- how many ticks are weighed at most
abbrev pub most_ticks : ℕ
most_ticks = 8

-- how many jobs of an item are due by a tick
abbrev pub jobs_of : Timing → ℕ → ℕ
jobs_of timing x = (x + (timing.period - timing.window)) / timing.period

pub record FewJobs (jobs : List ℕ) : Type 0 where
  pub places : length jobs ≡ most_items
  pub few : (j : ℕ) → slice_index jobs j ≤ most_span

-- the jobs of each of the first i items that are due by tick x
pub record JobsBy (x : ℕ) (timings : List ℕ) (i : ℕ) (jobs : List ℕ) : Type 0 where
  pub few : FewJobs jobs
  pub at : (j : ℕ) → j < i → slice_index jobs j ≡ jobs_of (timing_at timings j) x

pub record LowPrices (prices : List ℕ) : Type 0 where
  pub places : length prices ≡ most_items
  pub low : (i : ℕ) → slice_index prices i ≤ most_price

-- the first i prices are raised by at most the weight for each job, and all are still low
pub record Raised (weight : ℕ) (jobs prices : List ℕ) (i : ℕ) (raised : List ℕ) : Type 0 where
  pub low : LowPrices raised
  pub at_most : (j : ℕ) → j < i → slice_index raised j ≤ slice_index prices j + weight * slice_index jobs j
