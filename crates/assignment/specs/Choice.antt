-- The value of the best plan, over every set that may be kept.
use Rattle.std.specs.Prelude.{ℕ, ◌+◌, Bool, true, false, cond, List, [], ◌∷◌}
use Rattle.assignment.specs.Assignment.{Item}
use Rattle.assignment.specs.Values.{Value, none, pair, add, lesser}
use Rattle.assignment.specs.Partition.{best}

-- the least f kept over all sets that hold every item that must be kept
unfoldable pub least_holding : List Item → (List Bool → Value) → Value
least_holding [] f = f []
least_holding (item ∷ items) f =
    lesser (cond item.must none (least_holding items (λ S. f (false ∷ S)))) (least_holding items (λ S. f (true ∷ S)))

-- what refusing every item outside the set costs
unfoldable pub refusals : List Item → List Bool → ℕ
refusals [] S = 0
refusals (item ∷ items) [] = 0
refusals (item ∷ items) (b ∷ S) = cond b 0 item.refusal + refusals items S

-- on cores 0 to c
unfoldable pub chosen : ℕ → List Item → (List Bool → Value) → ℕ → Value
chosen levels items table c = least_holding items (λ S. add (pair (refusals items S) 0) (best levels table c S))
