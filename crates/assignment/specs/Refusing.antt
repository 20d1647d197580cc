-- Keeping of a set what is best to keep, and refusing the others.
use Rattle.std.specs.Prelude.{ℕ, zero, suc, Bool, true, false, cond, List, [], ◌∷◌}
use Rattle.assignment.specs.Assignment.{Item}
use Rattle.assignment.specs.Values.{Value, none, pair, add, lesser}

-- the set of all n items
unfoldable pub every : ℕ → List Bool
every zero = []
every (suc n) = true ∷ every n

-- the least, over the parts of W that hold each of its items that must be kept, of f of the part and the refusals of the others
unfoldable pub refusing : List Item → (List Bool → Value) → List Bool → Value
refusing [] f [] = f []
refusing [] f (b ∷ W) = none
refusing (item ∷ items) f [] = none
refusing (item ∷ items) f (false ∷ W) = refusing items (λ R. f (false ∷ R)) W
refusing (item ∷ items) f (true ∷ W) =
    lesser (refusing items (λ R. f (true ∷ R)) W)
    (cond item.must none (add (pair item.refusal 0) (refusing items (λ R. f (false ∷ R)) W)))
