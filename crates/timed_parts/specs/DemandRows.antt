-- Rows of a few ticks, as the code holds them: a flat column with a tick and an entry for each item in each row. The entries of a tick
-- are the jobs that are due by it; those of the last row, which has no tick, are the fewest ticks of a job.
use Rattle.std.specs.Prelude.{ℕ, ◌+◌, ◌*◌, ◌≤◌, ◌<◌, List, ◌≡◌, length, get_or}
use Rattle.assignment.specs.Limits.{most_items}
use Rattle.lagrangian.specs.PriceColumns.{jobs_of, most_ticks}
use Rattle.lagrangian.specs.TimedCores.{timing_at}
use Rattle.lagrangian.specs.declared.Timed.{Timed}
use Rattle.timed_parts.specs.TickColumns.{FewestTicks, in_set}
use Rattle.timed_parts.specs.declared.Node.{Node}

abbrev pub row_width : ℕ
row_width = most_items + 1

abbrev pub row_words : ℕ
row_words = (most_ticks + 1) * row_width

abbrev pub row_tick : (rows : List ℕ) (n : ℕ) → ℕ
row_tick rows n = get_or rows (n * row_width) 0

abbrev pub row_entry : (rows : List ℕ) (n i : ℕ) → ℕ
row_entry rows n i = get_or rows (n * row_width + 1 + i) 0

-- the tick of row n is one of the span, and its entries are the jobs that are due by it
pub record DueRow (timed : Timed) (timings rows : List ℕ) (n : ℕ) : Type 0 where
  pub within : row_tick rows n ≤ timed.span
  pub jobs : (i : ℕ) → i < timed.items → row_entry rows n i ≡ jobs_of (timing_at timings i) (row_tick rows n)

-- so in the first k rows, and the fewest ticks in the last
pub record DemandRows (timed : Timed) (timings : List ℕ) (k : ℕ) (rows : List ℕ) : Type 0 where
  pub places : length rows ≡ row_words
  pub due : (n : ℕ) → n < k → DueRow timed timings rows n
  pub fewest : (i : ℕ) → i < timed.items → FewestTicks timings i timed.levels (row_entry rows most_ticks i)

-- the first k entries of a row are set, and nothing else but later entries of it
pub record EntriesSet (row : ℕ) (entries before : List ℕ) (k : ℕ) (after : List ℕ) : Type 0 where
  pub places : length after ≡ length before
  pub its_entries : (i : ℕ) → i < k → row_entry after row i ≡ get_or entries i 0
  pub earlier : (j : ℕ) → j ≤ row * row_width → get_or after j 0 ≡ get_or before j 0
  pub later : (j : ℕ) → row * row_width + row_width ≤ j → get_or after j 0 ≡ get_or before j 0

-- a row is set, and nothing else
pub record RowSet (row tick : ℕ) (entries before after : List ℕ) : Type 0 where
  pub places : length after ≡ length before
  pub its_tick : row_tick after row ≡ tick
  pub its_entries : (i : ℕ) → i < most_items → row_entry after row i ≡ get_or entries i 0
  pub earlier : (j : ℕ) → j < row * row_width → get_or after j 0 ≡ get_or before j 0
  pub later : (j : ℕ) → row * row_width + row_width ≤ j → get_or after j 0 ≡ get_or before j 0

-- the node's ticks for the items that have their level; of the others before item k no more than the fewest, and none of those that
-- are not in the set of open items
pub record LowestColumn (timed : Timed) (node : Node) (rows : List ℕ) (k : ℕ) (column : List ℕ) : Type 0 where
  pub places : length column ≡ most_items
  pub front : (i : ℕ) → i < node.item → get_or column i 0 ≡ get_or node.ticks i 0
  pub fewest : (i : ℕ) → i < k → node.item ≤ i → get_or column i 0 ≤ row_entry rows most_ticks i
  pub others : (i : ℕ) → i < k → node.item ≤ i → in_set timed.items node.rest i ≡ 0 → get_or column i 0 ≡ 0
