-- The lesser of two pairs of numbers is the least by the order that is derived for them, and stands for the lesser of their values.
use Rattle.std.specs.Prelude.{◌≤◌, ◌<◌, ◌≡◌, refl, ◌⊎◌, Some, Bool, true, false, cond, ◌&&◌, ◌||◌, eqb, ltb}
use Rattle.std.proofs.Common.{sym, ap, ◌∙◌, inl, inr, ⊎_elim, le_of_lt, arith, ltb-true, ltb-false, eqb-true}
use Rattle.std.proofs.lemmas.Bool.{eqb-false}
use Rattle.std.specs.Ordering.{ordering_then, partial_ordering_then, nat_cmp, is_lt, is_some_and, partial_lt, ord_min}
use Rattle.std.specs.declared.cmp.Ordering.{Ordering}
use Rattle.std.specs.declared.cmp.Ordering.TheVariants.{Less, Equal, Greater}
use Rattle.laws.specs.Below.{lt_or_le}
use Rattle.laws.specs.Tests.{Decides}
use Rattle.assignment.specs.Values.{lesser}
use Rattle.assignment.specs.Words.{words_lesser_first, words_lesser_second}
use Rattle.values.specs.Worths.{First, is_first, lesser_worth, worth_of}
use Rattle.values.specs.declared.value.Worth.{Worth}
use Rattle.values.specs.contracts.value.WorthOrd.TheImpl as Order
use Rattle.values.specs.contracts.value.WorthPartialOrd.TheImpl as PartialOrder

-- by cost, then by key, each as less, equal or greater
costs_then_keys : (p q r s : Bool) → is_lt (ordering_then (cond p Less (cond q Equal Greater)) (cond r Less (cond s Equal Greater))) ≡ p || (q && r)
costs_then_keys true q r s = refl
costs_then_keys false true true s = refl
costs_then_keys false true false true = refl
costs_then_keys false true false false = refl
costs_then_keys false false r s = refl

partly : (x y : Ordering) → is_some_and is_lt (partial_ordering_then (Some x) (Some y)) ≡ is_lt (ordering_then x y)
partly Less y = refl
partly Equal y = refl
partly Greater y = refl

-- what `a < b` tests
pub less_is_first : (a b : Worth) → partial_lt PartialOrder.ghosts.partial_cmp a b ≡ is_first a b
unfolding is_first
less_is_first a b =
    partly (nat_cmp a.cost b.cost) (nat_cmp a.key b.key)
    ∙ costs_then_keys (ltb a.cost b.cost) (eqb a.cost b.cost) (ltb a.key b.key) (eqb a.key b.key)

-- what `a.min(b)` is
pub min_is_lesser : (a b : Worth) → ord_min Order.ghosts.cmp a b ≡ lesser_worth a b
unfolding is_first lesser_worth
min_is_lesser a b =
    ap (λ (t : Bool). cond t b a) (costs_then_keys (ltb b.cost a.cost) (eqb b.cost a.cost) (ltb b.key a.key) (eqb b.key a.key))

pub not_first : {a b : Worth} → ¬ (First a b) → (b.cost < a.cost) ⊎ ((b.cost ≡ a.cost) × (b.key ≤ a.key))
not_first {a} {b} later = go (lt_or_le b.cost a.cost) (lt_or_le a.cost b.cost) (lt_or_le a.key b.key)
  where
    go : (b.cost < a.cost) ⊎ (a.cost ≤ b.cost) → (a.cost < b.cost) ⊎ (b.cost ≤ a.cost) →
        (a.key < b.key) ⊎ (b.key ≤ a.key) → (b.cost < a.cost) ⊎ ((b.cost ≡ a.cost) × (b.key ≤ a.key))
    go (inl dearer) cheap key = inl dearer
    go (inr le) (inl cheap) key = absurd (later (inl cheap))
    go (inr le) (inr ge) (inl less) = absurd (later (inr (omega arith, less)))
    go (inr le) (inr ge) (inr key) = inr (omega arith, key)

is_first-decides : (a b : Worth) → Decides (is_first a b) (First a b)
unfolding is_first
is_first-decides a b = go (ltb a.cost b.cost) (eqb a.cost b.cost) (ltb a.key b.key) refl refl refl
  where
    go : (p q r : Bool) → ltb a.cost b.cost ≡ p → eqb a.cost b.cost ≡ q → ltb a.key b.key ≡ r →
        Decides (p || (q && r)) (First a b)
    go true q r ep eq er = inl (ltb-true _ _ ep)
    go false true true ep eq er = inr (eqb-true _ _ eq, ltb-true _ _ er)
    go false true false ep eq er =
        ⊎_elim (λ less. omega (arith, ltb-false a.cost b.cost ep)) (λ tied. omega (arith, ltb-false a.key b.key er))
    go false false r ep eq er =
        ⊎_elim (λ less. omega (arith, ltb-false a.cost b.cost ep)) (λ tied. eqb-false _ _ eq tied.0)

-- as `a < b` answers
pub less_first : {a b : Worth} → partial_lt PartialOrder.ghosts.partial_cmp a b ≡ true → First a b
less_first {a} {b} less = rw (← less_is_first a b, less) at (is_first-decides a b)

pub less_not_first : {a b : Worth} → partial_lt PartialOrder.ghosts.partial_cmp a b ≡ false → ¬ (First a b)
less_not_first {a} {b} less = rw (← less_is_first a b, less) at (is_first-decides a b)

pub lesser_worth-is_second : (a b : Worth) → First b a → lesser_worth a b ≡ b
unfolding lesser_worth
lesser_worth-is_second a b before = go (is_first b a) (is_first-decides b a)
  where
    go : (t : Bool) → Decides t (First b a) → cond t b a ≡ b
    go true holds = refl
    go false refuted = absurd (refuted before)

pub lesser_worth-is_first : (a b : Worth) → ¬ (First b a) → lesser_worth a b ≡ a
unfolding lesser_worth
lesser_worth-is_first a b later = go (is_first b a) (is_first-decides b a)
  where
    go : (t : Bool) → Decides t (First b a) → cond t b a ≡ a
    go true holds = absurd (later holds)
    go false refuted = refl

pub lesser_worth-either : (a b : Worth) → (lesser_worth a b ≡ a) ⊎ (lesser_worth a b ≡ b)
unfolding lesser_worth
lesser_worth-either a b = go (is_first b a)
  where
    go : (t : Bool) → (cond t b a ≡ a) ⊎ (cond t b a ≡ b)
    go true = inr refl
    go false = inl refl

pub lesser_worth-value : (a b : Worth) → worth_of (lesser_worth a b) ≡ lesser (worth_of a) (worth_of b)
unfolding lesser_worth
lesser_worth-value a b = go (is_first b a) (is_first-decides b a)
  where
    go : (t : Bool) → Decides t (First b a) → worth_of (cond t b a) ≡ lesser (worth_of a) (worth_of b)
    go true before =
        sym
        (words_lesser_second _ _ _ _ (⊎_elim (λ less. inl less) (λ tied. inr (tied.0, le_of_lt tied.1)) before))
    go false later = sym (words_lesser_first _ _ _ _ (not_first later))
