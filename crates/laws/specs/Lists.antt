-- Lists made of numbered parts.
use Rattle.std.specs.Prelude.{ℕ, zero, suc, List, [], ◌∷◌, ◌++◌, length, drop}

-- f 0, f 1, .., f (n - 1)
unfoldable pub list_of {ℓ} : {A : Type ℓ} → (ℕ → A) → ℕ → List A
list_of f zero = []
list_of f (suc n) = list_of f n ++ (f n ∷ [])

-- the buffer after `xs` was written to its front
unfoldable pub onto {ℓ} : {A : Type ℓ} → List A → List A → List A
onto xs buffer = xs ++ drop (length xs) buffer

-- xs, with `blank` after it until there are n
unfoldable pub padded {ℓ} : {A : Type ℓ} → ℕ → A → List A → List A
padded zero blank xs = []
padded (suc n) blank [] = blank ∷ padded n blank []
padded (suc n) blank (x ∷ xs) = x ∷ padded n blank xs

-- f 0, then f 1, .., then f (n - 1), in one list
unfoldable pub joined {ℓ} : {A : Type ℓ} → (ℕ → List A) → ℕ → List A
joined f zero = []
joined f (suc n) = joined f n ++ f n
