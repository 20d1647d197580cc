-- The plans that are tried: every list of n choices from 0 to `most`, nothing else, and in the order in which the
-- smaller first differing choice comes first.
use Prim.Native.Nat.{ℕ, zero, suc, ◌≤◌, ◌<◌}
use mathlib.Core.List.{List, [], ◌∷◌, ◌++◌, map, Memᴰ}
use Rattle.std.specs.Prelude.{◌↔◌, ◌≡◌}
use Rattle.std.proofs.Math.Logic.{⊎_elim}
use Rattle.std.proofs.Math.Path.{refl}
use Rattle.std.proofs.Common.{subst, le_of_suc-le-suc, eq-or-lt_of_le, arith}
use Rattle.std.proofs.Math.Nat.{le_step, le_refl}
use Rattle.laws.specs.Lists.{joined}
use Rattle.assignment.specs.Assignment.{Before, differs, agrees}
use Rattle.planner.specs.Planning.{choice_lists}

-- n choices from 0 to `most`
pub data Choices (most : ℕ) : ℕ → List ℕ → Type 0 where
  none : Choices most 0 []
  more : {n c : ℕ} {plan : List ℕ} → c ≤ most → Choices most n plan → Choices most (suc n) (c ∷ plan)

-- each comes before all that stand after it
pub data Ascending : List (List ℕ) → Type 0 where
  none : Ascending []
  more : {plan : List ℕ} {plans : List (List ℕ)} →
      ((other : List ℕ) → Memᴰ other plans → Before plan other) → Ascending plans → Ascending (plan ∷ plans)

-- what a joined list holds is what its parts hold
module _ {ℓ} {A : Type ℓ} (f : ℕ → List A) where
  in_joined : {x : A} (n k : ℕ) → k < n → Memᴰ x (f k) → Memᴰ x (joined f n)
  unfolding joined
  in_joined zero k h m = absurd (omega arith)
  in_joined {x} (suc n) k h m =
      ⊎_elim
      (λ (e : k ≡ n). mathlib.Core.List.Memᴰ.append_right (joined f n) (subst (λ (j : ℕ). Memᴰ x (f j)) e m))
      (λ (l : k < n). mathlib.Core.List.Memᴰ.append_left (f n) (in_joined n k l m))
      (eq-or-lt_of_le (le_of_suc-le-suc h))

  of_joined : {x : A} (n : ℕ) → Memᴰ x (joined f n) → (k : ℕ) × (k < n) × Memᴰ x (f k)
  unfolding joined
  of_joined zero m = absurd (mathlib.Core.List.Memᴰ.not-nil m)
  of_joined {x} (suc n) m =
      ⊎_elim
      (λ (earlier : Memᴰ x (joined f n)). let (k, h, here) = of_joined n earlier in (k, le_step h, here))
      (λ (last : Memᴰ x (f n)). (n, le_refl (suc n), last))
      (mathlib.Core.List.Memᴰ.append_cases (joined f n) m)

module _ (most : ℕ) where
  choices_listed : {n : ℕ} {plan : List ℕ} → Choices most n plan → Memᴰ plan (choice_lists most n)
  unfolding choice_lists
  choices_listed none = mathlib.Core.List.Memᴰ.head refl
  choices_listed (more {n} {c} h rest) =
      in_joined _ (suc most) c (omega arith) (mathlib.Core.List.Memᴰ.map (λ choices. c ∷ choices) (choices_listed rest))

  listed_choices : (n : ℕ) {plan : List ℕ} → Memᴰ plan (choice_lists most n) → Choices most n plan
  unfolding choice_lists
  listed_choices zero m = rw (mathlib.Core.List.Memᴰ.eq_of_singleton m) none
  listed_choices (suc n) {plan} m =
      let (c, h, here) = of_joined _ (suc most) m in
      let (rest, listed, e) = mathlib.Core.List.Memᴰ.of_map (λ choices. c ∷ choices) (choice_lists most n) here in
      rw (← e) (more (le_of_suc-le-suc h) (listed_choices n listed))

  pub listed_iff : (n : ℕ) (plan : List ℕ) → Memᴰ plan (choice_lists most n) ↔ Choices most n plan
  listed_iff n plan = (listed_choices n, choices_listed)

ascending_append : {xs ys : List (List ℕ)} → Ascending xs → Ascending ys →
    ((x y : List ℕ) → Memᴰ x xs → Memᴰ y ys → Before x y) → Ascending (xs ++ ys)
ascending_append none after across = after
ascending_append {ys} (more {plan} {plans} first rest) after across =
    more
    (λ other m. ⊎_elim (first other) (across plan other (mathlib.Core.List.Memᴰ.head refl)) (mathlib.Core.List.Memᴰ.append_cases plans m))
    (ascending_append rest after (λ x y inside. across x y (mathlib.Core.List.Memᴰ.tail inside)))

ascending_map : (c : ℕ) {plans : List (List ℕ)} → Ascending plans → Ascending (map (λ plan. c ∷ plan) plans)
ascending_map c none = none
ascending_map c (more {plan} {plans} first rest) =
    more
    {plan = c ∷ plan}
    (λ other m. let (tail, inside, e) = mathlib.Core.List.Memᴰ.of_map (λ choices. c ∷ choices) plans m in rw (← e) (agrees (first tail inside)))
    (ascending_map c rest)

ascending_joined : (plans : List (List ℕ)) → Ascending plans → (n : ℕ) → Ascending (joined (λ c. map (λ plan. c ∷ plan) plans) n)
unfolding joined
ascending_joined plans rest zero = none
ascending_joined plans rest (suc n) =
    ascending_append (ascending_joined plans rest n) (ascending_map n rest) (λ x y m l.
    let (c, h, here) = of_joined _ n m in
    let (tail, inside, e) = mathlib.Core.List.Memᴰ.of_map (λ choices. c ∷ choices) plans here in
    let (last, beside, d) = mathlib.Core.List.Memᴰ.of_map (λ choices. n ∷ choices) plans l in
    rw (← e, ← d) (differs h))

pub choice_lists-ascend : (most n : ℕ) → Ascending (choice_lists most n)
unfolding choice_lists
choice_lists-ascend most zero = more (λ other m. absurd (mathlib.Core.List.Memᴰ.not-nil m)) none
choice_lists-ascend most (suc n) = ascending_joined (choice_lists most n) (choice_lists-ascend most n) (suc most)
