-- A core's tasks with the ticks of a job of each item in a column, all items or those of a set; and the column of the fewest ticks.
use Rattle.std.specs.Prelude.{ℕ, ◌-◌, ◌*◌, ◌/◌, ◌%◌, ◌^◌, ◌≤◌, ◌<◌, Bool, false, List, ◌≡◌, length, get_or}
use Rattle.dispatch.specs.Rows.{CoreTasks}
use Rattle.edf.specs.Demand.{meets_demand}
use Rattle.assignment.specs.Keeping.{Keeps}
use Rattle.assignment.specs.Limits.{most_items}
use Rattle.assignment.specs.Sets.{set_number}
use Rattle.lagrangian.specs.TimedItems.{timed_core}
use Rattle.lagrangian.specs.TimedCores.{timing_at}
use Rattle.lagrangian.specs.declared.Timed.{Timed}

-- what a core runs with the ticks of a job of each item that stand in the column
unfoldable pub column_jobs : Timed → (timings column : List ℕ) → CoreTasks
column_jobs timed timings column =
    record {
      size = timed.items;
      period = λ i. (timing_at timings i).period;
      window = λ i. (timing_at timings i).window;
      ticks = λ i. get_or column i 0;
    }

-- 1 where item i is in set number x of n items, else 0
abbrev pub in_set : (n x i : ℕ) → ℕ
in_set n x i = x / 2 ^ (n - 1 - i) % 2

-- of the first k of n items: the ticks that those of the set have in a column, none of the others
pub record SetColumn (n set : ℕ) (column : List ℕ) (k : ℕ) (of_set : List ℕ) : Type 0 where
  pub places : length of_set ≡ most_items
  pub at : (i : ℕ) → i < k → get_or of_set i 0 ≡ in_set n set i * get_or column i 0

-- what a core runs with the items of a set, at the ticks of a job of each that stand in the column
unfoldable pub set_jobs : Timed → (timings column : List ℕ) → (set : ℕ) → CoreTasks
set_jobs timed timings column set =
    record {
      size = timed.items;
      period = λ i. (timing_at timings i).period;
      window = λ i. (timing_at timings i).window;
      ticks = λ i. in_set timed.items set i * get_or column i 0;
    }

-- whether these are served in time
unfoldable pub served_at : Timed → (timings column : List ℕ) → (set : ℕ) → Bool
served_at timed timings column set = meets_demand (set_jobs timed timings column set) timed.span

-- no more ticks than a job of item i has at any of the first k levels
pub record FewestTicks (timings : List ℕ) (i k ticks : ℕ) : Type 0 where
  pub at_most : (l : ℕ) → l < k → ticks ≤ (timing_at timings i).ticks l

-- the fewest ticks of each of the first k items
pub record FewestColumn (timed : Timed) (timings : List ℕ) (k : ℕ) (column : List ℕ) : Type 0 where
  pub places : length column ≡ most_items
  pub fewest : (i : ℕ) → i < k → FewestTicks timings i timed.levels (get_or column i 0)

-- set number y of n items has all items of set number x
pub record Includes (n y x : ℕ) : Type 0 where
  pub out_of_both : (i : ℕ) → i < n → in_set n y i ≡ 0 → in_set n x i ≡ 0

-- no core admits a pattern that keeps the items of the set, alone or with others
pub record NoneServes (timed : Timed) (set : ℕ) (timings : List ℕ) : Type 0 where
  pub refused : (S : List Bool) → length S ≡ timed.items → Includes timed.items (set_number timed.items S) set → (cost pattern : List ℕ) →
      Keeps timed.levels S pattern → (timed_core timed timings cost).admits pattern ≡ false
