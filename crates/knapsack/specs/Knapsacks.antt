-- Knapsacks: the least value of running exactly the items of a set on one core, in load up to a capacity. A set is a list of
-- flags, one beside each offer.
use Rattle.std.specs.Prelude.{ℕ, suc, ◌*◌, ◌-◌, ◌^◌, ◌≤◌, Bool, true, false, cond, List, [], ◌∷◌, leb, length}
use Rattle.assignment.specs.Keeping.{Keeps}
use Rattle.assignment.specs.Keys.{key_base, plan_key}
use Rattle.assignment.specs.Values.{Value, none, pair, add, least_below}
use Rattle.knapsack.specs.Offers.{Offer, pattern_load, pattern_cost}

-- an item at level l before `places` others, whose knapsack is `rest`, in load at most w: none where its own load is above w
unfoldable pub at_level : Offer → ℕ → (ℕ → Value) → ℕ → ℕ → Value
at_level offer places rest w l =
    cond (leb (offer.load l) w) (add (pair (offer.cost l) (suc l * key_base ^ places)) (rest (w - offer.load l))) none

-- in load at most w; none where the set does not stand beside the offers
unfoldable pub knapsack : ℕ → List Offer → List Bool → ℕ → Value
knapsack levels [] [] w = pair 0 0
knapsack levels [] (b ∷ T) w = none
knapsack levels (offer ∷ offers) [] w = none
knapsack levels (offer ∷ offers) (false ∷ T) w = knapsack levels offers T w
knapsack levels (offer ∷ offers) (true ∷ T) w = least_below levels (at_level offer (length offers) (knapsack levels offers T) w)

-- What its values are least of.

-- the pattern keeps exactly the items of the set, in load at most w
pub record Fitting (levels : ℕ) (offers : List Offer) (T : List Bool) (w : ℕ) (pattern : List ℕ) : Type 0 where
  pub keeps : Keeps levels T pattern
  pub fits : pattern_load offers pattern ≤ w

unfoldable pub offered_worth : List Offer → List ℕ → Value
offered_worth offers pattern = pair (pattern_cost offers pattern) (plan_key pattern)
