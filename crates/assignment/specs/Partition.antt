-- The least value of running exactly the items of a set on several cores, from any table of one core's values: one core
-- takes a part of the set, the cores below it the rest.
use Rattle.std.specs.Prelude.{ℕ, zero, suc, ◌*◌, Bool, true, false, List, [], ◌∷◌}
use Rattle.assignment.specs.Keys.{weight}
use Rattle.assignment.specs.Values.{Value, pair, add, lesser}

-- every item of a set is in one of two parts
pub data Parts : List Bool → List Bool → List Bool → Type 0 where
  nothing : Parts [] [] []
  neither : {S T R : List Bool} → Parts S T R → Parts (false ∷ S) (false ∷ T) (false ∷ R)
  first : {S T R : List Bool} → Parts S T R → Parts (true ∷ S) (true ∷ T) (false ∷ R)
  second : {S T R : List Bool} → Parts S T R → Parts (true ∷ S) (false ∷ T) (true ∷ R)

-- the least f part rest over all ways to part a set
unfoldable pub least_split : List Bool → (List Bool → List Bool → Value) → Value
least_split [] f = f [] []
least_split (false ∷ S) f = least_split S (λ T R. f (false ∷ T) (false ∷ R))
least_split (true ∷ S) f =
    lesser (least_split S (λ T R. f (true ∷ T) (false ∷ R))) (least_split S (λ T R. f (false ∷ T) (true ∷ R)))

-- a value of each set, with each choice larger by `shift`
unfoldable pub moved : ℕ → (List Bool → Value) → List Bool → Value
moved shift f T = add (pair 0 (shift * weight T)) (f T)

-- on cores 0 to c
unfoldable pub best : ℕ → (List Bool → Value) → ℕ → List Bool → Value
best levels table zero S = table S
best levels table (suc c) S = least_split S (λ T R. add (moved (suc c * levels) table T) (best levels table c R))
