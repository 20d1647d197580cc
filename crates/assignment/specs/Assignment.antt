-- What is searched for: each item is refused, or put on one core at one level. Choices are numbered as in a plan: 0
-- refuses, 1 + core × levels + level keeps, with cores and levels counted from 0. Of a core nothing is known but which
-- patterns it admits and what each costs. A pattern is what one core runs: 0 for an item that it does not run, 1 + level for
-- one that it runs, so a plan on core 0 alone.
use Rattle.std.specs.Prelude.{ℕ, zero, suc, pred, ◌+◌, ◌*◌, ◌/◌, ◌%◌, ◌≤◌, ◌<◌, ◌≡◌, ◌⊎◌, Bool, true, cond, not, ◌&&◌, List, [], ◌∷◌, eqb}

-- the cost of refusing it, and whether it may not be refused
pub record Item : Type 0 where
  pub refusal : ℕ
  pub must : Bool

pub record Options : Type 0 where
  pub cores : ℕ
  pub levels : ℕ
  pub items : List Item
  -- whether a core may run a pattern
  pub admits : List ℕ → Bool
  -- what a core that runs a pattern costs
  pub core_cost : List ℕ → ℕ

-- what choice c has core k run of its item
unfoldable pub on_core : ℕ → ℕ → ℕ → ℕ
on_core levels k c = cond (not (eqb c 0) && eqb (pred c / levels) k) (suc (pred c % levels)) 0

-- the pattern that core k runs
unfoldable pub core_pattern : ℕ → ℕ → List ℕ → List ℕ
core_pattern levels k [] = []
core_pattern levels k (c ∷ plan) = on_core levels k c ∷ core_pattern levels k plan

-- what the cores 0 to `cores` - 1 cost
unfoldable pub cores_cost : Options → ℕ → List ℕ → ℕ
cores_cost o zero plan = 0
cores_cost o (suc k) plan = cores_cost o k plan + o.core_cost (core_pattern o.levels k plan)

-- what the refused items cost
unfoldable pub refused_cost : List Item → List ℕ → ℕ
refused_cost [] plan = 0
refused_cost (item ∷ items) [] = 0
refused_cost (item ∷ items) (c ∷ plan) = cond (eqb c 0) item.refusal 0 + refused_cost items plan

unfoldable pub total_cost : Options → List ℕ → ℕ
total_cost o plan = cores_cost o o.cores plan + refused_cost o.items plan

-- a choice that an item may have: none above `most`, and no refusal where it must be kept
pub record ChoiceAllowed (most : ℕ) (item : Item) (c : ℕ) : Type 0 where
  pub in_range : c ≤ most
  pub kept : item.must ≡ true → c ≡ 0 → ⊥

-- one allowed choice for each item
pub data ChoicesAllowed (most : ℕ) : List Item → List ℕ → Type 0 where
  none : ChoicesAllowed most [] []
  more : {item : Item} {items : List Item} {c : ℕ} {plan : List ℕ} →
      ChoiceAllowed most item c → ChoicesAllowed most items plan → ChoicesAllowed most (item ∷ items) (c ∷ plan)

pub record Allowed (o : Options) (plan : List ℕ) : Type 0 where
  pub choices : ChoicesAllowed (o.cores * o.levels) o.items plan
  pub cores_admit : (k : ℕ) → k < o.cores → o.admits (core_pattern o.levels k plan) ≡ true

-- the first differing choice is smaller
pub data Before : List ℕ → List ℕ → Type 0 where
  differs : {c d : ℕ} {plan other : List ℕ} → c < d → Before (c ∷ plan) (d ∷ other)
  agrees : {c : ℕ} {plan other : List ℕ} → Before plan other → Before (c ∷ plan) (c ∷ other)

-- cheaper, or as cheap and not after
abbrev pub NoWorse : Options → List ℕ → List ℕ → Type 0
NoWorse o plan other =
    (total_cost o plan < total_cost o other) ⊎ ((total_cost o plan ≡ total_cost o other) × ((plan ≡ other) ⊎ Before plan other))

-- the plan to be found: there is at most one
pub record Best (o : Options) (plan : List ℕ) : Type 0 where
  pub allowed : Allowed o plan
  pub no_worse : (other : List ℕ) → Allowed o other → NoWorse o plan other
