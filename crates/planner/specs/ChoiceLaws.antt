-- One allowed choice for each item, said by index.
use Rattle.std.specs.Prelude.{ℕ, zero, suc, ◌<◌, List, [], ◌∷◌, ◌≡◌, refl, length, get_or}
use Rattle.std.proofs.Common.{ap, le_of_suc-le-suc, arith}
use Rattle.std.proofs.Math.Nat.{suc_inj}
use Rattle.assignment.specs.Assignment.{Item, ChoiceAllowed, ChoicesAllowed, none, more}

pub record AllowedAt (blank : Item) (most : ℕ) (items : List Item) (plan : List ℕ) : Type 0 where
  pub one_choice_per_item : length plan ≡ length items
  pub choice : (i : ℕ) → i < length items → ChoiceAllowed most (get_or items i blank) (get_or plan i 0)

module _ (blank : Item) (most : ℕ) where
  pub allowed_at : {items : List Item} {plan : List ℕ} → ChoicesAllowed most items plan → AllowedAt blank most items plan
  allowed_at none = record { one_choice_per_item = refl; choice = λ i h. absurd (omega arith) }
  allowed_at (more {item} {items} {c} {plan} here rest) =
      let tail = allowed_at rest in record { one_choice_per_item = ap suc tail.one_choice_per_item; choice = at tail }
    where
      at : AllowedAt blank most items plan → (i : ℕ) → i < suc (length items) →
          ChoiceAllowed most (get_or (item ∷ items) i blank) (get_or (c ∷ plan) i 0)
      at tail zero h = here
      at tail (suc i) h = tail.choice i (le_of_suc-le-suc h)

  pub at_allowed : (items : List Item) (plan : List ℕ) → AllowedAt blank most items plan → ChoicesAllowed most items plan
  at_allowed [] [] at = none
  at_allowed [] (c ∷ plan) at = absurd (omega arith)
  at_allowed (item ∷ items) [] at = absurd (omega arith)
  at_allowed (item ∷ items) (c ∷ plan) at =
      more
      (at.choice 0 (omega arith))
      (at_allowed
      items
      plan
      (record {
        one_choice_per_item = suc_inj at.one_choice_per_item;
        choice = λ i h. at.choice (suc i) (omega arith);
      }))
