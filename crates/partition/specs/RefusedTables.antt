-- What refusing items does to a table: each set's value becomes that of keeping what is best of it.
use Rattle.std.specs.Prelude.{ℕ, ◌+◌, ◌*◌, ◌^◌, ◌≤◌, ◌<◌, ◌≡◌, ◌⊎◌, Bool, List, length, get_or}
use Rattle.assignment.specs.Assignment.{Item}
use Rattle.assignment.specs.Values.{pair, add, lesser, Within}
use Rattle.assignment.specs.Words.{no_cost}
use Rattle.assignment.specs.Limits.{most_cost}
use Rattle.assignment.specs.Sets.{set_number}
use Rattle.assignment.specs.Refusing.{refusing}
use Rattle.assignment.specs.Entries.{entry_at, NoDearer, Kept}
use Rattle.partition.specs.ItemsFrom.{items_from}

-- what refusing one item asks: with its refusal a cost fits 64 bits, and a real one stays real
pub record ItemReady (half s refusal : ℕ) (costs keys : List ℕ) : Type 0 where
  pub costs_long : s + half + half ≤ length costs
  pub keys_long : s + half + half ≤ length keys
  pub cheap : refusal ≤ most_cost
  pub fits : (x : ℕ) → x < half → get_or costs (s + x) 0 + refusal < 2 ^ 64
  pub real : (x : ℕ) → x < half → get_or costs (s + x) 0 < no_cost → get_or costs (s + x) 0 + refusal < no_cost

-- the first n sets with the item were lowered to those without it
pub record ItemRefused (half s refusal n : ℕ) (costs keys costs' keys' : List ℕ) : Type 0 where
  pub there : (x : ℕ) → x < n →
      entry_at costs' keys' (s + half + x)
      ≡ lesser (entry_at costs keys (s + half + x)) (add (pair refusal 0) (entry_at costs keys (s + x)))
  pub elsewhere : (x : ℕ) → (x < s + half) ⊎ (s + half + n ≤ x) → Kept costs keys costs' keys' x
  pub no_dearer : NoDearer costs keys costs' keys'

-- what refusing items from i on asks of 2^left = size sets: real costs stay real with all refusals
pub record RefuseReady (size i s : ℕ) (refusal : List ℕ) (must : List Bool) (costs keys : List ℕ) : Type 0 where
  pub left : ℕ
  pub is_power : size ≡ 2 ^ left
  pub refusals_long : i + left ≤ length refusal
  pub musts_long : i + left ≤ length must
  pub costs_long : s + size ≤ length costs
  pub keys_long : s + size ≤ length keys
  pub refusal_bound : (j : ℕ) → j < left → get_or refusal (i + j) 0 ≤ most_cost
  pub cost_bound : (x : ℕ) → x < size → get_or costs (s + x) 0 ≤ no_cost
  pub most : ℕ
  pub key_bound : ℕ
  pub small : (x : ℕ) → x < size → Within most key_bound (entry_at costs keys (s + x))
  pub room : most + left * most_cost < no_cost

-- the values of the 2^k sets that add some of the k items to the set s became those of keeping what is best
pub record Refused (k s : ℕ) (items : List Item) (costs keys costs' keys' : List ℕ) : Type 0 where
  pub there : (S : List Bool) → length S ≡ k →
      entry_at costs' keys' (s + set_number k S) ≡ refusing items (λ R. entry_at costs keys (s + set_number k R)) S
  pub elsewhere : (x : ℕ) → (x < s) ⊎ (s + 2 ^ k ≤ x) → Kept costs keys costs' keys' x
  pub no_dearer : NoDearer costs keys costs' keys'

-- the same of all items from i on that 2^k = size sets are about
pub record RefusedFrom (size i s : ℕ) (refusal : List ℕ) (must : List Bool) (costs keys costs' keys' : List ℕ) : Type 0 where
  pub all : (k : ℕ) → size ≡ 2 ^ k → Refused k s (items_from refusal must i k) costs keys costs' keys'
