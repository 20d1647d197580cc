-- Items as the code holds them: a slice of refusals, and one of which must be kept.
use Rattle.std.specs.Prelude.{ℕ, Bool, false, List, get_or}
use Rattle.laws.specs.Lists.{list_of}
use Rattle.assignment.specs.Assignment.{Item}

unfoldable pub item_at : List ℕ → List Bool → ℕ → Item
item_at refusal must i = record { refusal = get_or refusal i 0; must = get_or must i false }

-- the first n
unfoldable pub items_of : List ℕ → List Bool → ℕ → List Item
items_of refusal must = list_of (item_at refusal must)
