-- Loads: what each item asks of a core and costs there, at each level; and the search over cores that take load up to a
-- capacity.
use Rattle.std.specs.Prelude.{ℕ, zero, suc, ◌+◌, List, [], ◌∷◌, leb}
use Rattle.assignment.specs.Assignment.{Item, Options}

-- the load and the cost of an item at a level
pub record Offer : Type 0 where
  pub load : ℕ → ℕ
  pub cost : ℕ → ℕ

-- what one entry of a pattern asks of the core, and what it costs there

unfoldable pub entry_load : Offer → ℕ → ℕ
entry_load offer zero = 0
entry_load offer (suc l) = offer.load l

unfoldable pub entry_cost : Offer → ℕ → ℕ
entry_cost offer zero = 0
entry_cost offer (suc l) = offer.cost l

unfoldable pub pattern_load : List Offer → List ℕ → ℕ
pattern_load [] pattern = 0
pattern_load (offer ∷ offers) [] = 0
pattern_load (offer ∷ offers) (c ∷ pattern) = entry_load offer c + pattern_load offers pattern

unfoldable pub pattern_cost : List Offer → List ℕ → ℕ
pattern_cost [] pattern = 0
pattern_cost (offer ∷ offers) [] = 0
pattern_cost (offer ∷ offers) (c ∷ pattern) = entry_cost offer c + pattern_cost offers pattern

-- each core takes the patterns whose load is within the capacity
unfoldable pub load_options : (cores levels capacity : ℕ) → List Offer → List Item → Options
load_options cores levels capacity offers items =
    record {
      cores = cores;
      levels = levels;
      items = items;
      admits = λ pattern. leb (pattern_load offers pattern) capacity;
      core_cost = pattern_cost offers;
    }
