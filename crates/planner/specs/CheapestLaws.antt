-- Of plans in choice order, the first of least cost is ahead of every other that is allowed.
use Rattle.std.specs.Prelude.{ℕ, ◌<◌, ◌≤◌, Bool, cond, ◌⊎◌, ◌≡◌}
use Rattle.std.proofs.Math.Bool.{true, false}
use mathlib.Core.List.Memᴰ
use mathlib.Core.List.{List, ◌∷◌, Memᴰ}
use Rattle.std.proofs.Math.Logic.{inl}
use Rattle.std.proofs.Common.{inr, ⊎_elim, sym, subst, eq-or-lt_of_le, arith, leb-true, leb-false}
use Rattle.std.proofs.Math.Option.{Option, none, some}
use Rattle.std.proofs.Math.Path.{refl}
use Rattle.std.proofs.Math.Dec.{leb}
use Rattle.laws.specs.Truth.{false_not_true}
use Rattle.instance.specs.Node.{Problem}
use Rattle.prices.specs.Prices.{cost}
use Rattle.assignment.specs.Assignment.{Before}
use Rattle.planner.specs.Planning.{is_allowed, better, first_cheapest}
use Rattle.planner.specs.ChoiceListLaws.{Ascending}

-- cheaper, or as cheap and not after
abbrev pub NoWorsePlan : Problem → List ℕ → List ℕ → Type 0
NoWorsePlan p plan other = (cost p plan < cost p other) ⊎ ((cost p plan ≡ cost p other) × ((plan ≡ other) ⊎ Before plan other))

-- what is found in a list of plans: an allowed one that is ahead of all allowed ones, or none where none is allowed
pub data Found (p : Problem) (plans : List (List ℕ)) : Option (List ℕ) → Type 0 where
  found : {plan : List ℕ} → Memᴰ plan plans → is_allowed p plan ≡ true →
      ((other : List ℕ) → Memᴰ other plans → is_allowed p other ≡ true → NoWorsePlan p plan other) → Found p plans (some plan)
  missing : ((other : List ℕ) → Memᴰ other plans → is_allowed p other ≡ true → ⊥) → Found p plans none

-- what holds of the first and of the others holds of all
each {ℓ κ} : {A : Type ℓ} (P : A → Type κ) {x : A} {xs : List A} → P x → ((y : A) → Memᴰ y xs → P y) →
    (y : A) → Memᴰ y (x ∷ xs) → P y
each P here others y m = ⊎_elim (λ e. subst P (sym e) here) (others y) (Memᴰ.cases_cons m)

module _ (p : Problem) where
  no_worse_than_itself : (plan : List ℕ) → NoWorsePlan p plan plan
  no_worse_than_itself plan = inr (refl, inl refl)

  -- a plan that costs no more than another and stands before whatever follows is ahead of what that other is ahead of
  no_worse_before : {plan other later : List ℕ} → cost p plan ≤ cost p other → Before plan later → NoWorsePlan p other later → NoWorsePlan p plan later
  no_worse_before {plan} {other} {later} h before (inl cheaper) = inl (omega arith)
  no_worse_before {plan} {other} {later} h before (inr (e, place)) =
      ⊎_elim
      (λ (same : cost p plan ≡ cost p later). inr (same, inr before))
      (λ (less : cost p plan < cost p later). inl less)
      (eq-or-lt_of_le (omega arith))

  module _ (plan : List ℕ) (plans : List (List ℕ)) (first : (other : List ℕ) → Memᴰ other plans → Before plan other) where
    found_without : {best : Option (List ℕ)} → is_allowed p plan ≡ false → Found p plans best → Found p (plan ∷ plans) best
    found_without fails (found {plan = best} listed allowed ahead) =
        found
        (Memᴰ.tail listed)
        allowed
        (each (λ other. is_allowed p other ≡ true → NoWorsePlan p best other) (λ passes. absurd (false_not_true fails passes)) ahead)
    found_without fails (missing none_allowed) =
        missing (each (λ other. is_allowed p other ≡ true → ⊥) (false_not_true fails) none_allowed)

    found_better : {best : Option (List ℕ)} → is_allowed p plan ≡ true → Found p plans best → Found p (plan ∷ plans) (better p plan best)
    unfolding better
    found_better passes (missing none_allowed) =
        found
        (Memᴰ.head refl)
        passes
        (each
        (λ other. is_allowed p other ≡ true → NoWorsePlan p plan other)
        (λ again. no_worse_than_itself plan)
        (λ other m allowed. absurd (none_allowed other m allowed)))
    found_better passes (found {plan = best} listed allowed ahead) = go (leb (cost p plan) (cost p best)) refl
      where
        go : (b : Bool) → leb (cost p plan) (cost p best) ≡ b → Found p (plan ∷ plans) (cond b (some plan) (some best))
        go true e =
            found
            (Memᴰ.head refl)
            passes
            (each
            (λ other. is_allowed p other ≡ true → NoWorsePlan p plan other)
            (λ again. no_worse_than_itself plan)
            (λ other m ok. no_worse_before (leb-true _ _ e) (first other m) (ahead other m ok)))
        go false e =
            found
            (Memᴰ.tail listed)
            allowed
            (each (λ other. is_allowed p other ≡ true → NoWorsePlan p best other) (λ again. inl (leb-false _ _ e)) ahead)

    found_step : {best : Option (List ℕ)} → Found p plans best → Found p (plan ∷ plans) (cond (is_allowed p plan) (better p plan best) best)
    found_step {best} rest = go (is_allowed p plan) refl
      where
        go : (b : Bool) → is_allowed p plan ≡ b → Found p (plan ∷ plans) (cond b (better p plan best) best)
        go true passes = found_better passes rest
        go false fails = found_without fails rest

  pub first_cheapest-found : {plans : List (List ℕ)} → Ascending plans → Found p plans (first_cheapest p plans)
  unfolding first_cheapest
  first_cheapest-found Ascending.none = missing (λ other m. absurd (Memᴰ.not-nil m))
  first_cheapest-found (Ascending.more {plan} {plans} first rest) = found_step plan plans first (first_cheapest-found rest)
