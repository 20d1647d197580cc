-- The value that two numbers of the code stand for, which of two such pairs comes first, and how large they are.
use Rattle.std.specs.Prelude.{ℕ, ◌*◌, ◌^◌, ◌≤◌, ◌<◌, ◌≡◌, ◌⊎◌, Bool, cond, ◌&&◌, ◌||◌, eqb, ltb}
use Rattle.assignment.specs.Keys.{key_base}
use Rattle.assignment.specs.Limits.{most_cost}
use Rattle.assignment.specs.Values.{Value}
use Rattle.assignment.specs.Words.{no_cost, value_of}
use Rattle.values.specs.declared.value.Worth.{Worth}

abbrev pub worth_of : Worth → Value
worth_of worth = value_of worth.cost worth.key

-- a comes before b
abbrev pub First : Worth → Worth → Type 0
First a b = (a.cost < b.cost) ⊎ ((a.cost ≡ b.cost) × (a.key < b.key))

unfoldable pub is_first : Worth → Worth → Bool
is_first a b = ltb a.cost b.cost || (eqb a.cost b.cost && ltb a.key b.key)

-- b where it comes first, else a: also where both stand for none
unfoldable pub lesser_worth : Worth → Worth → Worth
lesser_worth a b = cond (is_first b a) b a

-- as small as the values of m items are: for each item a cost, and a digit of the key
pub record Small (m cost key : ℕ) : Type 0 where
  pub at_most_none : cost ≤ no_cost
  pub real : cost < no_cost → cost ≤ m * most_cost
  pub digits : key < key_base ^ m
