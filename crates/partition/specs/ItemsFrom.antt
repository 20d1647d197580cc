-- The items from any one on.
use Rattle.std.specs.Prelude.{ℕ, zero, suc, ◌+◌, ◌≡◌, refl, Bool, List, [], ◌∷◌, ◌++◌}
use Rattle.std.proofs.Common.{sym, ap, ◌∙◌, zero-add, add-zero, add-suc, suc-add}
use Rattle.laws.specs.Lists.{list_of}
use Rattle.assignment.specs.Assignment.{Item}
use Rattle.values.specs.Items.{item_at, items_of}

-- f i, f (i + 1), .., f (i + n - 1)
unfoldable pub list_from : {A : Type 0} → (ℕ → A) → ℕ → ℕ → List A
list_from f i zero = []
list_from f i (suc n) = f i ∷ list_from f (suc i) n

-- the k items from i on
abbrev pub items_from : List ℕ → List Bool → ℕ → ℕ → List Item
items_from refusal must = list_from (item_at refusal must)

list_from-end : {A : Type 0} (f : ℕ → A) (i n : ℕ) → list_from f i (suc n) ≡ list_from f i n ++ (f (i + n) ∷ [])
unfolding list_from
list_from-end f i zero = rw add-zero
list_from-end f i (suc n) = ap (λ l. f i ∷ l) (list_from-end f (suc i) n ∙ rw (suc-add, add-suc))

list_of-from : {A : Type 0} (f : ℕ → A) (n : ℕ) → list_of f n ≡ list_from f 0 n
unfolding list_of list_from
list_of-from f zero = refl
list_of-from f (suc n) = rw (list_of-from f n) (sym (list_from-end f 0 n ∙ rw zero-add))

pub items_from_first : (refusal : List ℕ) (must : List Bool) (n : ℕ) → items_from refusal must 0 n ≡ items_of refusal must n
unfolding items_of
items_from_first refusal must n = sym (list_of-from (item_at refusal must) n)
