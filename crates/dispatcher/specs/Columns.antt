-- A core that is prepared for the node's own loop: its kept tasks in columns, and what one tick over these answers, whatever they hold.
use Rattle.std.specs.Prelude.{ℕ, zero, suc, Bool, cond, ◌&&◌, List, leb, ltb, eqb, length, get_or, Err}
use Rattle.laws.specs.Search.{every, first}
use Rattle.ranges.specs.Limits.{most_tasks}
use Rattle.dispatch.specs.Rows.{CoreTasks}
use Rattle.refusals.specs.Refusals.{◌and_then◌, Verdict, accepted}
use Rattle.refusals.specs.declared.Refusal.TheVariants.{CoreOrState}
use Rattle.dispatcher.specs.States.{call_passes, dispatched_where}
use Rattle.dispatcher.specs.declared.DispatchState.{DispatchState}
use Rattle.dispatcher.specs.declared.Dispatched.{Dispatched}

-- the column of task i, the first with its number; one beyond all where it has none
unfoldable pub column_of : List ℕ → ℕ → ℕ
column_of numbers i = first (λ j. eqb (get_or numbers j 0) (suc i)) (length numbers)

-- the core's tasks by their numbers: one that has no column has no ticks
unfoldable pub numbered_tasks : (numbers periods windows ticks : List ℕ) → CoreTasks
numbered_tasks numbers periods windows ticks =
    record {
      size = most_tasks;
      period = λ i. get_or periods (column_of numbers i) 0;
      window = λ i. get_or windows (column_of numbers i) 0;
      ticks = λ i. get_or ticks (column_of numbers i) 0;
    }

abbrev pub number_before : List ℕ → ℕ → ℕ
number_before numbers zero = 0
number_before numbers (suc j) = get_or numbers j 0

-- column j has a period above 0 and a number above the one before, for which a state has a place
unfoldable pub column_fits : (numbers periods : List ℕ) → ℕ → Bool
column_fits numbers periods j =
    ltb 0 (get_or periods j 0) && ltb (number_before numbers j) (get_or numbers j 0) && leb (get_or numbers j 0) most_tasks

unfoldable pub columns_fit : (numbers periods windows ticks : List ℕ) → Bool
columns_fit numbers periods windows ticks =
    let n = length numbers in
    eqb (length periods) n && eqb (length windows) n && eqb (length ticks) n && every (column_fits numbers periods) n

-- 12, of the core
unfoldable pub columns_pass : (numbers periods windows ticks : List ℕ) → Verdict
columns_pass numbers periods windows ticks = cond (columns_fit numbers periods windows ticks) accepted (Err CoreOrState)

unfoldable pub tick_outcome : (numbers periods windows ticks : List ℕ) → ℕ → DispatchState → Bool → Dispatched
tick_outcome numbers periods windows ticks span s ended =
    let core = numbered_tasks numbers periods windows ticks in
    dispatched_where (columns_pass numbers periods windows ticks and_then call_passes core span s ended) core span s ended
