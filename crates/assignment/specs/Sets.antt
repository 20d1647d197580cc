-- Sets of items by number, and tables of a value for each set, as the code holds them: a slice of costs and one of keys.
use Rattle.std.specs.Prelude.{ℕ, zero, suc, ◌+◌, ◌^◌, ◌≤◌, ◌<◌, ◌≡◌, Bool, cond, List, [], ◌∷◌, length, get_or}
use Rattle.assignment.specs.Values.{Value}
use Rattle.assignment.specs.Words.{no_cost, value_of}

-- the number of a set of n items: the first item is the most significant bit
unfoldable pub set_number : ℕ → List Bool → ℕ
set_number zero S = 0
set_number (suc n) [] = 0
set_number (suc n) (b ∷ S) = cond b (2 ^ n) 0 + set_number n S

-- the value of a set of n items in a table
unfoldable pub table_at : ℕ → (costs keys : List ℕ) → List Bool → Value
table_at n costs keys S = value_of (get_or costs (set_number n S) 0) (get_or keys (set_number n S) 0)

-- the entries of all sets of n items: each stands for the value f of its set; no cost is above noCost, and every key is
-- below `keys`, also beside no cost
pub record Tabled (n keys : ℕ) (f : List Bool → Value) (costs marks : List ℕ) : Type 0 where
  pub costs_for_all : 2 ^ n ≤ length costs
  pub marks_for_all : 2 ^ n ≤ length marks
  pub holds : (S : List Bool) → length S ≡ n → table_at n costs marks S ≡ f S
  pub cost_bound : (x : ℕ) → x < 2 ^ n → get_or costs x 0 ≤ no_cost
  pub key_bound_lem : (x : ℕ) → x < 2 ^ n → get_or marks x 0 < keys
