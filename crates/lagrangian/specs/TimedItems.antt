-- What is asked of timings and costs, and the core that they speak of.
use Rattle.std.specs.Prelude.{ℕ, ◌*◌, ◌<◌, ◌≤◌, List, [], length}
use Rattle.std.specs.Int.{◌∣◌}
use Rattle.ranges.specs.Limits.{most_period, most_span}
use Rattle.edf.specs.Demand.{meets_demand}
use Rattle.assignment.specs.Limits.{most_cost, most_items, most_levels}
use Rattle.knapsack.specs.Offered.{entry_of, offers_of}
use Rattle.knapsack.specs.Offers.{pattern_cost}
use Rattle.lagrangian.specs.Reached.{OneCore}
use Rattle.lagrangian.specs.TimedCores.{timing_width, timing_at, timings_of, pattern_tasks}
use Rattle.lagrangian.specs.declared.Timed.{Timed}

-- the core that timings and costs speak of
abbrev pub timed_core : Timed → (timings cost : List ℕ) → OneCore
timed_core timed timings cost =
    record {
      levels = timed.levels;
      admits = λ pattern. meets_demand (pattern_tasks (timings_of timings timed.items) pattern) timed.span;
      cost = pattern_cost (offers_of [] cost timed.items);
    }

-- windows that are not empty and end by the next release, and periods that divide the span
pub record TimedItem (span : ℕ) (timings : List ℕ) (i : ℕ) : Type 0 where
  pub period_at_most : (timing_at timings i).period ≤ most_period
  pub period_divides : (timing_at timings i).period ∣ span
  pub window_above_0 : 1 ≤ (timing_at timings i).window
  pub window_within_period : (timing_at timings i).window ≤ (timing_at timings i).period

pub record TimedItems (timed : Timed) (timings : List ℕ) : Type 0 where
  pub few_items : timed.items ≤ most_items
  pub few_levels : timed.levels ≤ most_levels
  pub span_above_0 : 0 < timed.span
  pub span_at_most : timed.span ≤ most_span
  pub timings_for_all : timed.items * timing_width ≤ length timings
  pub item : (i : ℕ) → i < timed.items → TimedItem timed.span timings i

pub record TimedReady (timed : Timed) (timings cost : List ℕ) : Type 0 where
  pub timed_items : TimedItems timed timings
  pub costs_for_all : timed.items * most_levels ≤ length cost
  -- no level at which a job has its ticks within its window costs more
  pub cheap : (i l : ℕ) → i < timed.items → l < timed.levels → (timing_at timings i).ticks l ≤ (timing_at timings i).window →
      entry_of cost i l ≤ most_cost
