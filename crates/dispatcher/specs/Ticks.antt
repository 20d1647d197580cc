-- What the functions of one tick over columns have done, as their contracts say it.
use Rattle.std.specs.Prelude.{ℕ, Bool, List, [], ◌≡◌, length, get_or}
use Rattle.dispatch.specs.Calls.{after_end}
use Rattle.dispatch.specs.Chosen.{number_of}
use Rattle.dispatch.specs.Columns.{column_tasks, due_in}
use Rattle.dispatch.specs.Rows.{after_release, earliest}
use Rattle.dispatcher.specs.Places.{Placed, place_of}
use Rattle.dispatcher.specs.declared.DispatchState.{DispatchState}
use Rattle.dispatcher.specs.declared.ticks.Chosen.{Chosen}

-- the ticks left of column j's task once an early end is applied and the jobs of a tick are released
abbrev pub ready_in : (numbers periods ticks : List ℕ) → DispatchState → Bool → ℕ → ℕ
ready_in numbers periods ticks s ended j =
    after_release (column_tasks periods [] ticks) s.tick j (after_end ended s.last (place_of numbers j) (get_or s.left (place_of numbers j) 0))

pub record ChosenColumn (numbers periods windows ticks : List ℕ) (s : DispatchState) (ended : Bool) (chosen : Chosen) : Type 0 where
  pub released : Placed numbers (ready_in numbers periods ticks s ended) s.left chosen.left (length numbers)
  pub is_earliest : number_of chosen.column ≡ earliest (due_in periods windows s.tick) (ready_in numbers periods ticks s ended) (length numbers)
