-- A table is two lists, of costs and of keys; what lowering one of its entries does to it.
use Rattle.std.specs.Prelude.{ℕ, ◌≤◌, ◌<◌, ◌≡◌, ◌⊎◌, ◌≢◌, List, get_or}
use Rattle.assignment.specs.Values.{Value, lesser}
use Rattle.assignment.specs.Words.{value_of}

-- the value at x of a table
unfoldable pub entry_at : List ℕ → List ℕ → ℕ → Value
entry_at costs keys x = value_of (get_or costs x 0) (get_or keys x 0)

-- as numbers, no entry became dearer, nor got a larger key at the same cost
pub record NoDearer (costs keys costs' keys' : List ℕ) : Type 0 where
  pub at : (x : ℕ) →
      (get_or costs' x 0 < get_or costs x 0) ⊎ ((get_or costs' x 0 ≡ get_or costs x 0) × (get_or keys' x 0 ≤ get_or keys x 0))

-- entry x is as it was
pub record Kept (costs keys costs' keys' : List ℕ) (x : ℕ) : Type 0 where
  pub cost : get_or costs' x 0 ≡ get_or costs x 0
  pub key : get_or keys' x 0 ≡ get_or keys x 0

-- entry s was lowered to v, where v is the lesser
pub record Lowered (s : ℕ) (v : Value) (costs keys costs' keys' : List ℕ) : Type 0 where
  pub there : entry_at costs' keys' s ≡ lesser (entry_at costs keys s) v
  pub elsewhere : (x : ℕ) → x ≢ s → Kept costs keys costs' keys' x
  pub no_dearer : NoDearer costs keys costs' keys'
