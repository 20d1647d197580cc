-- The test of a core's demand: what its columns must be, and what it answers.
use Rattle.std.specs.Prelude.{ℕ, ◌≤◌, ◌<◌, true, List, Option, None, IfSome, ◌≡◌, length, get_or}
use Rattle.ranges.specs.Limits.{most_period, most_span, most_tasks}
use Rattle.dispatch.specs.Columns.{column_tasks}
use Rattle.dispatch.specs.Rows.{CoreTasks}
use Rattle.edf.specs.Demand.{WellFormed, WholePeriods, demand_at, meets_demand}

-- each task of the columns has a window that is not empty and ends by the next release
pub record JobColumns (periods windows ticks : List ℕ) : Type 0 where
  pub few_tasks : length ticks ≤ most_tasks
  pub one_period_each : length periods ≡ length ticks
  pub one_window_each : length windows ≡ length ticks
  pub period_at_most : (i : ℕ) → i < length ticks → get_or periods i 0 ≤ most_period
  pub well_formed : WellFormed (column_tasks periods windows ticks)

-- and its period divides the span
pub record SpanColumns (span : ℕ) (periods windows ticks : List ℕ) : Type 0 where
  pub columns : JobColumns periods windows ticks
  pub whole_periods : WholePeriods (column_tasks periods windows ticks) span
  pub span_at_most : span ≤ most_span

-- none where by no tick up to `end` is more due than there are ticks; else a tick by which more is due
pub record UnmetTick (core : CoreTasks) (end : ℕ) (r : Option ℕ) : Type 0 where
  pub met : r ≡ None → meets_demand core end ≡ true
  pub unmet : IfSome r (λ t. (t ≤ end) × (t < demand_at core t))

-- the demand is met by each tick above b, up to `end`
pub record MetAbove (core : CoreTasks) (b end : ℕ) : Type 0 where
  pub met_by : (x : ℕ) → b < x → x ≤ end → demand_at core x ≤ x

-- no task is due before its next release
pub record DueAtRelease (periods windows : List ℕ) (n : ℕ) : Type 0 where
  pub none_early : (i : ℕ) → i < n → get_or periods i 0 ≤ get_or windows i 0
