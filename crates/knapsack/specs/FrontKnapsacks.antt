-- The knapsack of a set from its first item on.
use Rattle.std.specs.Prelude.{ℕ, zero, suc, ◌+◌, ◌/◌, ◌^◌, ◌<◌, ◌≡◌, refl, Bool, true, false, cond}
use Rattle.std.proofs.Common.{◌∙◌, zero-add, pow-suc, arith}
use Rattle.knapsack.specs.Offers.{Offer}
use Rattle.knapsack.specs.Knapsacks.{at_level}
use Rattle.knapsack.specs.KnapsackSteps.{with_item, has_last, knapsack_before, knapsack_before-same}
use Rattle.knapsack.specs.SetNumberLaws.{half_number, last_of_number}
use Rattle.assignment.specs.LeastLaws.{least_below-alike}
use Rattle.assignment.specs.Values.{Value}

-- the first item of a set stands in front of the knapsack of the others
pub knapsack_before-first : (levels : ℕ) (offer : ℕ → Offer) (n places r : ℕ) (rest : ℕ → Value) (b : Bool) → r < 2 ^ n →
    knapsack_before levels offer (suc n) places (cond b (2 ^ n) 0 + r) rest
    ≡ cond b (with_item levels (offer 0) (n + places) (knapsack_before levels (λ i. offer (suc i)) n places r rest))
    (knapsack_before levels (λ i. offer (suc i)) n places r rest)
unfolding knapsack_before has_last
knapsack_before-first levels offer zero places r rest true small = let none : r ≡ 0 = omega arith in rw (none, zero-add places)
knapsack_before-first levels offer zero places r rest false small = let none : r ≡ 0 = omega arith in rw none
knapsack_before-first levels offer (suc n) places r rest b small =
    let sums : n + suc places ≡ suc n + places = omega arith in
    rw (half_number b n r, last_of_number b n r, ← sums)
    (knapsack_before-first levels offer n (suc places) (r / 2) _ b (omega (arith, pow-suc 2 n)))

-- a knapsack of n items asks for these items alone
pub knapsack_before-items : (levels : ℕ) (f g : ℕ → Offer) (n places k : ℕ) (rest : ℕ → Value) → ((i : ℕ) → i < n → f i ≡ g i) →
    knapsack_before levels f n places k rest ≡ knapsack_before levels g n places k rest
unfolding knapsack_before
knapsack_before-items levels f g zero places k rest same = refl
knapsack_before-items levels f g (suc n) places k rest same =
    rw (same n (omega arith)) (knapsack_before-items levels f g n (suc places) (k / 2) _ (λ i h. same i (omega arith)))

-- and for their levels alone

pub record AlikeBelow (levels : ℕ) (a b : Offer) : Type 0 where
  pub same_load : (l : ℕ) → l < levels → a.load l ≡ b.load l
  pub same_cost : (l : ℕ) → l < levels → a.cost l ≡ b.cost l

with_item-alike : (levels : ℕ) {a b : Offer} (places : ℕ) (rest : ℕ → Value) (w : ℕ) → AlikeBelow levels a b →
    with_item levels a places rest w ≡ with_item levels b places rest w
unfolding with_item at_level
with_item-alike levels places rest w alike =
    least_below-alike levels _ _ (λ l under. rw (alike.same_load l under, alike.same_cost l under))

pub knapsack_before-alike : (levels : ℕ) (f g : ℕ → Offer) (n places k : ℕ) (rest : ℕ → Value) (w : ℕ) →
    ((i : ℕ) → i < n → AlikeBelow levels (f i) (g i)) →
    knapsack_before levels f n places k rest w ≡ knapsack_before levels g n places k rest w
unfolding knapsack_before
knapsack_before-alike levels f g zero places k rest w alike = refl
knapsack_before-alike levels f g (suc n) places k rest w alike =
    knapsack_before-alike levels f g n (suc places) (k / 2) _ w (λ i h. alike i (omega arith))
    ∙ knapsack_before-same levels g n (suc places) (k / 2) _ _ w (λ u le. inner (has_last k) u)
  where
    inner : (b : Bool) (u : ℕ) →
        cond b (with_item levels (f n) places rest) rest u ≡ cond b (with_item levels (g n) places rest) rest u
    inner true u = with_item-alike levels places rest u (alike n (omega arith))
    inner false u = refl
