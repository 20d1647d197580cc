-- A core's tasks in columns, as the code holds them, and what each function makes of the ticks left and of the slots.
use Rattle.std.specs.Prelude.{ℕ, suc, ◌+◌, ◌-◌, ◌%◌, ◌≤◌, ◌<◌, List, [], ◌≡◌, Option, IfSome, length, get_or}
use Rattle.ranges.specs.Limits.{most_period, most_tasks}
use Rattle.laws.specs.Lists.{list_of}
use Rattle.dispatch.specs.Chosen.{number_of}
use Rattle.dispatch.specs.Rows.{CoreTasks, after_release, due_at, earliest, slot_of}
use Rattle.dispatch.specs.Runs.{after_ticks}
use Rattle.dispatch.specs.SelectedTasks.{numbered}
use Rattle.dispatch.specs.declared.Run.{Run}

abbrev pub column_tasks : (periods windows ticks : List ℕ) → CoreTasks
column_tasks periods windows ticks =
    record {
      size = length ticks;
      period = λ i. get_or periods i 0;
      window = λ i. get_or windows i 0;
      ticks = λ i. get_or ticks i 0;
    }

-- the first n slots of the columns' tasks, by their numbers
unfoldable pub column_row : (numbers periods windows ticks : List ℕ) → ℕ → List ℕ
column_row numbers periods windows ticks n = list_of (λ t. numbered (λ j. get_or numbers j 0) (slot_of (column_tasks periods windows ticks) t)) n

-- a due tick needs no ticks of a job, and a release no window
abbrev pub due_in : (periods windows : List ℕ) → ℕ → ℕ → ℕ
due_in periods windows = due_at (column_tasks periods windows [])

abbrev pub ready_in : (periods ticks : List ℕ) → ℕ → List ℕ → ℕ → ℕ
ready_in periods ticks tick left i = after_release (column_tasks periods [] ticks) tick i (get_or left i 0)

pub record PeriodsOk (periods : List ℕ) : Type 0 where
  pub above_0 : (i : ℕ) → i < length periods → 0 < get_or periods i 0

pub record DuesOk (periods windows : List ℕ) : Type 0 where
  pub one_window_each : length windows ≡ length periods
  pub periods_ok : PeriodsOk periods
  pub window_bounded : (i : ℕ) → i < length periods → get_or windows i 0 ≤ most_period

pub record ColumnsOk (numbers periods windows ticks : List ℕ) : Type 0 where
  pub few_tasks : length periods ≤ most_tasks
  pub one_number_each : length numbers ≡ length periods
  pub one_job_each : length ticks ≡ length periods
  pub dues_ok : DuesOk periods windows

-- no task releases a job from tick `from` up to, but without, tick `to`
pub record NoRelease (periods : List ℕ) (n from to : ℕ) : Type 0 where
  pub none : (i u : ℕ) → i < n → from ≤ u → u < to → u % get_or periods i 0 ≡ 0 → ⊥

-- r is at most the first release after tick, and at most `end`
pub record NextRelease (periods : List ℕ) (n tick end r : ℕ) : Type 0 where
  pub later : tick < r
  pub within : r ≤ end
  pub no_release : NoRelease periods n (suc tick) r

-- the jobs of a tick are released
pub record Released (periods ticks : List ℕ) (tick : ℕ) (before after : List ℕ) : Type 0 where
  pub same_length : length after ≡ length before
  pub ready : (i : ℕ) → i < length periods → get_or after i 0 ≡ ready_in periods ticks tick before i

-- a task, or none, can run from a tick up to, but without, tick `end`
pub record RunsUntil (left : List ℕ) (task : Option ℕ) (tick soonest end : ℕ) : Type 0 where
  pub later : tick < end
  pub within : end ≤ soonest
  pub enough_left : IfSome task (λ i. end ≤ tick + get_or left i 0)

-- it ran for so many ticks
pub record RanFor (task : Option ℕ) (ticks : ℕ) (before after : List ℕ) : Type 0 where
  pub same_length : length after ≡ length before
  pub left : (i : ℕ) → get_or after i 0 ≡ after_ticks (number_of task) ticks i (get_or before i 0)

pub record RanEarliest (periods windows : List ℕ) (tick soonest : ℕ) (before after : List ℕ) (run : Run) : Type 0 where
  pub is_earliest : number_of run.task ≡ earliest (due_in periods windows tick) (λ i. get_or before i 0) (length periods)
  pub until : RunsUntil before run.task tick soonest run.end
  pub ran : RanFor run.task (run.end - tick) before after

pub record Filled (before after : List ℕ) (from to slot : ℕ) : Type 0 where
  pub same_length : length after ≡ length before
  pub inside : (u : ℕ) → from ≤ u → u < to → get_or after u 0 ≡ slot
  pub earlier : (u : ℕ) → u < from → get_or after u 0 ≡ get_or before u 0
