-- A core whose jobs are due at given ticks, as the search has it: which patterns it admits, and what each costs where an item is
-- offered at what it costs alone.
use Rattle.std.specs.Prelude.{ℕ, zero, suc, ◌+◌, ◌*◌, List, length, slice_index, slice_index_or}
use Rattle.laws.specs.Lists.{list_of}
use Rattle.dispatch.specs.Rows.{CoreTasks}
use Rattle.edf.specs.Demand.{meets_demand}
use Rattle.assignment.specs.Assignment.{Item, Options}
use Rattle.assignment.specs.Limits.{most_levels}
use Rattle.knapsack.specs.Offers.{Offer, pattern_cost}

-- the period of an item, from a job's release to its due tick, and the ticks of a job at each level
pub record Timing : Type 0 where
  pub period : ℕ
  pub window : ℕ
  pub ticks : ℕ → ℕ

-- the ticks of a job by one entry of a pattern: none where the core does not run the item
unfoldable pub entry_ticks : Timing → ℕ → ℕ
entry_ticks timing zero = 0
entry_ticks timing (suc l) = timing.ticks l

unfoldable pub no_timing : Timing
no_timing = record { period = 0; window = 0; ticks = λ l. 0 }

abbrev pub timing_in : List Timing → ℕ → Timing
timing_in timings i = slice_index_or timings i no_timing

-- what a core runs by a pattern
unfoldable pub pattern_tasks : List Timing → List ℕ → CoreTasks
pattern_tasks timings pattern =
    record {
      size = length timings;
      period = λ i. (timing_in timings i).period;
      window = λ i. (timing_in timings i).window;
      ticks = λ i. entry_ticks (timing_in timings i) (slice_index pattern i);
    }

-- each core admits the patterns with no more due by any tick of the span than there are ticks
unfoldable pub timed_options : (cores levels span : ℕ) → List Timing → List Offer → List Item → Options
timed_options cores levels span timings offers items =
    record {
      cores = cores;
      levels = levels;
      items = items;
      admits = λ pattern. meets_demand (pattern_tasks timings pattern) span;
      core_cost = pattern_cost offers;
    }

-- As the code holds timings: a flat slice with ten words for each item: its period, its window, and the ticks at each level.

abbrev pub timing_width : ℕ
timing_width = most_levels + 2

unfoldable pub timing_at : List ℕ → ℕ → Timing
timing_at words i =
    record {
      period = slice_index words (i * timing_width);
      window = slice_index words (i * timing_width + 1);
      ticks = λ l. slice_index words (i * timing_width + 2 + l);
    }

-- of the first n items
unfoldable pub timings_of : List ℕ → ℕ → List Timing
timings_of words = list_of (timing_at words)
