-- A table of costs in which each set owes the idle energy of a whole span once, from one in which each of its items owes it.
use Rattle.std.specs.Prelude.{ℕ, zero, suc, ◌+◌, ◌-◌, ◌*◌, ◌/◌, ◌%◌, ◌^◌, ◌≤◌, ◌<◌, ◌≡◌, refl, ◌⊎◌, cond, List, ltb, length, get_or, set}
use Rattle.std.proofs.Common.{sym, ap, ◌∙◌, inl, inr, mul-zero, eq-or-lt_of_le, arith, lt-ltb, le-ltb, get_or-set_same, get_or-set_other}
use Rattle.laws.specs.Below.{lt_or_le}
use Rattle.assignment.specs.Limits.{most_items}
use Rattle.assignment.specs.Words.{no_cost}
use Rattle.core_tables.specs.AwakeCores.{surplus}
use Rattle.core_tables.specs.SetSizes.{items_in, items_in-half, items_in-empty, items_in-some}

-- the cost of a set of so many items, less what is counted too often; no cost stays no cost
unfoldable pub charged : (whole count cost : ℕ) → ℕ
charged whole count cost = cond (ltb cost no_cost) (cost - surplus whole count) cost

-- what charging asks: no cost is below what is taken off
pub record ChargeReady (n whole : ℕ) (costs : List ℕ) : Type 0 where
  pub few_items : n ≤ most_items
  pub costs_for_all : 2 ^ n ≤ length costs
  pub surplus_counted : (x : ℕ) → x < 2 ^ n → get_or costs x 0 < no_cost → surplus whole (items_in n x) ≤ get_or costs x 0

-- the sizes of the sets with numbers below x
pub record SizesBelow (n x : ℕ) (sizes : List ℕ) : Type 0 where
  pub at : (y : ℕ) → y < x → get_or sizes y 0 ≡ items_in n y

-- the costs of the sets with numbers below x are charged, the others are as they were
pub record ChargedBelow (n whole x : ℕ) (before after : List ℕ) : Type 0 where
  pub below : (y : ℕ) → y < x → get_or after y 0 ≡ charged whole (items_in n y) (get_or before y 0)
  pub from : (y : ℕ) → x ≤ y → get_or after y 0 ≡ get_or before y 0

pub charged_none : (whole count cost : ℕ) → no_cost ≤ cost → charged whole count cost ≡ cost
unfolding charged
charged_none whole count cost dear = rw (le-ltb cost no_cost dear)

pub charged_real : (whole count cost : ℕ) → cost < no_cost → charged whole count cost ≡ cost - surplus whole count
unfolding charged
charged_real whole count cost real = rw (lt-ltb cost no_cost real)

-- as the code has it
pub taken_once_less : (whole count : ℕ) → 1 ≤ count → (count - 1) * whole ≡ surplus whole count
unfolding surplus
taken_once_less whole zero some = absurd (omega arith)
taken_once_less whole (suc k) some = let one_less : suc k - 1 ≡ k = omega arith in ap (λ (m : ℕ). m * whole) one_less

pub charged_at_most : (whole count cost : ℕ) → charged whole count cost ≤ cost
charged_at_most whole count cost = go (lt_or_le cost no_cost)
  where
    go : (cost < no_cost) ⊎ (no_cost ≤ cost) → charged whole count cost ≤ cost
    go (inl real) = omega (arith, charged_real whole count cost real)
    go (inr dear) = omega (arith, charged_none whole count cost dear)

-- what is real afterwards was real
pub charged_was_real : (whole count cost : ℕ) → charged whole count cost < no_cost → cost < no_cost
charged_was_real whole count cost real = go (lt_or_le cost no_cost)
  where
    go : (cost < no_cost) ⊎ (no_cost ≤ cost) → cost < no_cost
    go (inl here) = here
    go (inr dear) = absurd (omega (arith, charged_none whole count cost dear))

nothing_off : (whole count cost : ℕ) → surplus whole count ≡ 0 → charged whole count cost ≡ cost
nothing_off whole count cost none = go (lt_or_le cost no_cost)
  where
    go : (cost < no_cost) ⊎ (no_cost ≤ cost) → charged whole count cost ≡ cost
    go (inl real) = omega (arith, charged_real whole count cost real)
    go (inr dear) = charged_none whole count cost dear

-- the sizes, one after the other

pub first_size : (n : ℕ) (sizes : List ℕ) → get_or sizes 0 0 ≡ 0 → SizesBelow n 1 sizes
first_size n sizes zeroth = record { at = at }
  where
    at : (y : ℕ) → y < 1 → get_or sizes y 0 ≡ items_in n y
    at y first = let empty : y ≡ 0 = omega arith in rw (empty, items_in-empty n) zeroth

pub one_more_size : {n x : ℕ} {sizes : List ℕ} → SizesBelow n x sizes → 1 ≤ x → x < 2 ^ n → x < length sizes →
    SizesBelow n (x + 1) (set sizes x (get_or sizes (x / 2) 0 + x % 2))
one_more_size {n} {x} {sizes} sized some under room = record { at = λ y h. go y (eq-or-lt_of_le h) }
  where
    next : ℕ
    next = get_or sizes (x / 2) 0 + x % 2

    go : (y : ℕ) → (suc y ≡ x + 1) ⊎ (suc y < x + 1) → get_or (set sizes x next) y 0 ≡ items_in n y
    go y (inl e) =
        let last : y ≡ x = omega arith in
        rw last
        (get_or-set_same sizes x next 0 room ∙ ap (λ (k : ℕ). k + x % 2) (sized.at (x / 2) (omega arith)) ∙ items_in-half n x some under)
    go y (inr earlier) = get_or-set_other sizes x y next 0 (omega arith) ∙ sized.at y (omega arith)

-- the costs, one after the other

-- the empty set owes nothing
pub first_charged : (n whole : ℕ) (costs : List ℕ) → ChargedBelow n whole 1 costs costs
unfolding surplus
first_charged n whole costs = record { below = below; from = λ y h. refl }
  where
    below : (y : ℕ) → y < 1 → get_or costs y 0 ≡ charged whole (items_in n y) (get_or costs y 0)
    below y first =
        let empty : y ≡ 0 = omega arith in
        rw (empty, items_in-empty n) (sym (nothing_off whole 0 (get_or costs 0 0) (omega arith)))

-- where idle ticks cost nothing, nothing is owed
pub free_charged : (n x : ℕ) (costs : List ℕ) → ChargedBelow n 0 x costs costs
unfolding surplus
free_charged n x costs = record { below = λ y h. sym (nothing_off 0 (items_in n y) (get_or costs y 0) (mul-zero _)); from = λ y h. refl }

module _ {n whole x : ℕ} {sizes before after : List ℕ} (sized : SizesBelow n (2 ^ n) sizes) (done : ChargedBelow n whole x before after)
    (under : x < 2 ^ n) where
  pub next_counted : ChargeReady n whole before → 1 ≤ x →
      (1 ≤ get_or sizes x 0) × (get_or after x 0 < no_cost → surplus whole (get_or sizes x 0) ≤ get_or after x 0)
  next_counted ready some =
      let same = done.from x (omega arith) in
      rw (sized.at x under, same) (items_in-some n x some under, ready.surplus_counted x under)

  pub one_more_charged : {cost : ℕ} → cost ≡ charged whole (get_or sizes x 0) (get_or after x 0) → x < length after →
      ChargedBelow n whole (x + 1) before (set after x cost)
  one_more_charged {cost} is_charged room =
      record { below = λ y h. go y (eq-or-lt_of_le h); from = λ y h. get_or-set_other after x y cost 0 (omega arith) ∙ done.from y (omega arith) }
    where
      go : (y : ℕ) → (suc y ≡ x + 1) ⊎ (suc y < x + 1) → get_or (set after x cost) y 0 ≡ charged whole (items_in n y) (get_or before y 0)
      go y (inl e) =
          let last : y ≡ x = omega arith in
          let right = rw (sized.at x under, done.from x (omega arith)) at is_charged in
          rw last (get_or-set_same after x cost 0 room ∙ right)
      go y (inr earlier) = get_or-set_other after x y cost 0 (omega arith) ∙ done.below y (omega arith)
