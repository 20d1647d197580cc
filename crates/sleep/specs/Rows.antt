-- Which ticks a core is busy in, by its row: "the row repeats".
use Rattle.std.specs.Prelude.{ℕ, ◌%◌, Bool, not, List, eqb, length, get_or}
use Rattle.instance.specs.Node.{Problem}
use Rattle.drawings.specs.RepeatedTables.{shown_at}

-- whether core k is busy at tick t, however late: its repeated row shows a task there
unfoldable pub busy_at : Problem → List ℕ → ℕ → ℕ → Bool
busy_at p table k t = not (eqb (shown_at p table k t) 0)

-- the same of a row by itself
unfoldable pub busy_in : List ℕ → ℕ → Bool
busy_in row t = not (eqb (get_or row (t % length row) 0) 0)
