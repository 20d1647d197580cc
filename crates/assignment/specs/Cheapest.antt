-- A least value of plans, read: there is no plan, or the first of least cost is the one that the key stands for.
use Rattle.std.specs.Prelude.{ℕ, ◌<◌, ◌≡◌, refl, ◌⊎◌, List, length}
use Rattle.std.proofs.Common.{sym, ◌∙◌, inl, inr, arith}
use Rattle.assignment.specs.Assignment.{Before}
use Rattle.assignment.specs.Values.{Value, none, pair, AtMost, cheaper, tied, Attained, Least}
use Rattle.assignment.specs.ValueLaws.{none_above}
use Rattle.assignment.specs.Keys.{plan_key, digits}
use Rattle.assignment.specs.KeyLaws.{InBase, digits_key, key_order}

-- cheaper, or as cheap and not after
abbrev pub NoWorseBy : (List ℕ → ℕ) → List ℕ → List ℕ → Type 0
NoWorseBy cost plan other =
    (cost plan < cost other) ⊎ ((cost plan ≡ cost other) × ((plan ≡ other) ⊎ Before plan other))

-- of the plans with a property, the first of least cost
pub record FirstCheapest (Has : List ℕ → Type 0) (cost : List ℕ → ℕ) (plan : List ℕ) : Type 0 where
  pub has : Has plan
  pub no_worse : (other : List ℕ) → Has other → NoWorseBy cost plan other

-- what a value says of them, where each has n choices: that there is none, or the least cost and, by its key, the plan
abbrev pub Answers : ℕ → (List ℕ → Type 0) → (List ℕ → ℕ) → Value → Type 0
Answers n Has cost none = (plan : List ℕ) → ¬ (Has plan)
Answers n Has cost (pair c key) = FirstCheapest Has cost (digits n key) × (cost (digits n key) ≡ c)

pub least_answers : (n : ℕ) (Has : List ℕ → Type 0) (cost : List ℕ → ℕ) →
    ((plan : List ℕ) → Has plan → InBase plan × (length plan ≡ n)) → (v : Value) →
    Least Has (λ (plan : List ℕ). pair (cost plan) (plan_key plan)) v → Answers n Has cost v
least_answers n Has cost in_base v least = go v least.below least.attained
  where
    worth : List ℕ → Value
    worth plan = pair (cost plan) (plan_key plan)

    no_worse : {plan other : List ℕ} → Has plan → Has other → AtMost (worth plan) (worth other) → NoWorseBy cost plan other
    no_worse a b (cheaper h) = inl h
    no_worse {plan} {other} a b (tied e h) =
        let (digits_here, here) = in_base plan a in
        let (digits_there, there) = in_base other b in
        inr (e, key_order digits_here digits_there (here ∙ sym there) h)

    go : (v : Value) → ((plan : List ℕ) → Has plan → AtMost v (worth plan)) → Attained Has worth v → Answers n Has cost v
    go none below attained = λ plan has. none_above (below plan has)
    go (pair c key) below (inl e) = let z : ◌≡◌ {A = ℕ} 0 1 = cc in absurd (omega arith)
    go (pair c key) below (inr (plan, has, e)) =
        let costs : c ≡ cost plan = cc in
        let keys : key ≡ plan_key plan = cc in
        let (in_digits, of_items) = in_base plan has in
        rw (costs, keys, sym of_items, digits_key in_digits)
        (record { has = has; no_worse = λ other h. no_worse has h (rw e at (below other h)) }, refl)
