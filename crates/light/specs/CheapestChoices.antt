-- What each item would choose if it had core 0 to itself.
use Rattle.std.specs.Prelude.{ℕ, suc, ◌≤◌, ◌<◌, ◌≡◌, ◌⊎◌, true, false, List, [], ◌∷◌}
use Rattle.assignment.specs.Assignment.{Item, Options}
use Rattle.knapsack.specs.Offers.{Offer, pattern_load, pattern_cost}

-- a choice for which no core but core 0 may run the item, with its load and cost
pub data LowChoice (offer : Offer) (item : Item) : (choice load cost : ℕ) → Type 0 where
  refusing : item.must ≡ false → LowChoice offer item 0 0 item.refusal
  keeping : (l : ℕ) → LowChoice offer item (suc l) (offer.load l) (offer.cost l)

-- no choice up to l that a core takes is cheaper, and none at that cost is smaller
abbrev pub ComesFirst : ℕ → Offer → Item → ℕ → (choice cost : ℕ) → Type 0
ComesFirst capacity offer item l choice cost =
    (c w v : ℕ) → c ≤ l → LowChoice offer item c w v → w ≤ capacity → (cost < v) ⊎ ((cost ≡ v) × (choice ≤ c))

-- the first cheapest of the choices whose load a core takes
pub record CheapestChoice (levels capacity : ℕ) (offer : Offer) (item : Item) (choice load cost : ℕ) : Type 0 where
  pub low : choice ≤ levels
  pub is_choice : LowChoice offer item choice load cost
  pub fits : load ≤ capacity
  pub comes_first : ComesFirst capacity offer item levels choice cost

-- such a choice for each item
pub data CheapestChoices (levels capacity : ℕ) : List Offer → List Item → List ℕ → Type 0 where
  none : CheapestChoices levels capacity [] [] []
  more : {offer : Offer} {offers : List Offer} {item : Item} {items : List Item} {c : ℕ} {plan : List ℕ} (load cost : ℕ) →
      CheapestChoice levels capacity offer item c load cost → CheapestChoices levels capacity offers items plan →
      CheapestChoices levels capacity (offer ∷ offers) (item ∷ items) (c ∷ plan)

-- a core costs what is offered, and takes no load above the capacity, whatever else it asks
pub record OfLoads (o : Options) (capacity : ℕ) (offers : List Offer) : Type 0 where
  pub costs : (pattern : List ℕ) → o.core_cost pattern ≡ pattern_cost offers pattern
  pub within : (pattern : List ℕ) → o.admits pattern ≡ true → pattern_load offers pattern ≤ capacity
