-- Knapsacks as they are computed: from the last item to the first, one item put in front of what stands behind it.
use Rattle.std.specs.Prelude.{ℕ, zero, suc, ◌/◌, ◌%◌, ◌≤◌, ◌-◌, ◌≡◌, refl, Bool, true, false, cond, List, ◌∷◌, ◌++◌, eqb, length}
use Rattle.std.proofs.Common.{append_assoc, arith}
use Rattle.laws.specs.Lists.{list_of}
use Rattle.knapsack.specs.Offers.{Offer}
use Rattle.assignment.specs.LeastLaws.{least_below-alike}
use Rattle.assignment.specs.Values.{Value, least_below}
use Rattle.knapsack.specs.Knapsacks.{at_level, knapsack}

-- the knapsack of a set with one item more, in front of its `places` items
unfoldable pub with_item : ℕ → Offer → ℕ → (ℕ → Value) → ℕ → Value
with_item levels offer places rest w = least_below levels (at_level offer places rest w)

-- whether the last of the items whose set has number k is in it
unfoldable pub has_last : ℕ → Bool
has_last k = eqb (k % 2) 1

-- the knapsack of set number k of the items 0 .. ahead - 1, in front of `places` items of which a set has the knapsack `rest`
unfoldable pub knapsack_before : ℕ → (ℕ → Offer) → ℕ → ℕ → ℕ → (ℕ → Value) → ℕ → Value
knapsack_before levels offer zero places k rest = rest
knapsack_before levels offer (suc ahead) places k rest =
    knapsack_before levels offer ahead (suc places) (k / 2) (cond (has_last k) (with_item levels (offer ahead) places rest) rest)

-- a knapsack looks at no larger load

at_level-same : (offer : Offer) (places : ℕ) (f g : ℕ → Value) (w l : ℕ) → ((u : ℕ) → u ≤ w → f u ≡ g u) →
    at_level offer places f w l ≡ at_level offer places g w l
unfolding at_level
at_level-same offer places f g w l same = rw (same (w - offer.load l) (omega arith))

pub with_item-same : (levels : ℕ) (offer : Offer) (places : ℕ) (f g : ℕ → Value) (w : ℕ) → ((u : ℕ) → u ≤ w → f u ≡ g u) →
    with_item levels offer places f w ≡ with_item levels offer places g w
unfolding with_item
with_item-same levels offer places f g w same =
    least_below-alike levels _ _ (λ l under. at_level-same offer places f g w l same)

pub knapsack_before-same : (levels : ℕ) (offer : ℕ → Offer) (ahead places k : ℕ) (f g : ℕ → Value) (w : ℕ) →
    ((u : ℕ) → u ≤ w → f u ≡ g u) → knapsack_before levels offer ahead places k f w ≡ knapsack_before levels offer ahead places k g w
unfolding knapsack_before
knapsack_before-same levels offer zero places k f g w same = same w (omega arith)
knapsack_before-same levels offer (suc ahead) places k f g w same =
    knapsack_before-same levels offer ahead (suc places) (k / 2) _ _ w (inner (has_last k))
  where
    inner : (b : Bool) (u : ℕ) → u ≤ w →
        cond b (with_item levels (offer ahead) places f) f u ≡ cond b (with_item levels (offer ahead) places g) g u
    inner true u h = with_item-same levels (offer ahead) places f g u (λ v le. same v (omega arith))
    inner false u h = same u h

-- the set with number k of n items, in front of the set T
unfoldable pub set_before : ℕ → ℕ → List Bool → List Bool
set_before zero k T = T
set_before (suc n) k T = set_before n (k / 2) (has_last k ∷ T)

knapsack_one_more : (levels : ℕ) (offer : Offer) (offers : List Offer) (b : Bool) (T : List Bool) →
    cond b (with_item levels offer (length offers) (knapsack levels offers T)) (knapsack levels offers T) ≡ knapsack levels (offer ∷ offers) (b ∷ T)
unfolding knapsack with_item
knapsack_one_more levels offer offers true T = refl
knapsack_one_more levels offer offers false T = refl

pub knapsack_before-knapsack : (levels : ℕ) (offer : ℕ → Offer) (ahead k : ℕ) (offers : List Offer) (T : List Bool) →
    knapsack_before levels offer ahead (length offers) k (knapsack levels offers T)
    ≡ knapsack levels (list_of offer ahead ++ offers) (set_before ahead k T)
unfolding knapsack_before set_before list_of
knapsack_before-knapsack levels offer zero k offers T = refl
knapsack_before-knapsack levels offer (suc ahead) k offers T =
    rw (append_assoc, knapsack_one_more levels (offer ahead) offers (has_last k) T)
    (knapsack_before-knapsack levels offer ahead (k / 2) (offer ahead ∷ offers) (has_last k ∷ T))
