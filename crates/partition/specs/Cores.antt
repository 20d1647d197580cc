-- What the code does for one core more.
use Rattle.std.specs.Prelude.{ℕ, ◌+◌, ◌^◌, ◌≤◌, ◌<◌, ◌≡◌, ◌⊎◌, Bool, List, length, get_or, drop}
use Rattle.assignment.specs.Limits.{most_items}
use Rattle.assignment.specs.Keys.{key_base}
use Rattle.assignment.specs.Values.{add}
use Rattle.assignment.specs.Words.{no_cost}
use Rattle.assignment.specs.Sets.{table_at}
use Rattle.assignment.specs.Partition.{least_split, moved}
use Rattle.partition.specs.Tables.{SmallTable}

-- what adding the values of two tables asks, where each choice of the one is larger by `shift`: no real sum comes near noCost
pub record CoreReady (n shift : ℕ) (tops top_keys costs keys : List ℕ) : Type 0 where
  pub few_items : n ≤ most_items
  pub small_shift : shift < key_base
  pub most_top : ℕ
  pub most_rest : ℕ
  pub top_table : SmallTable n most_top tops top_keys
  pub rest_table : SmallTable n most_rest costs keys
  pub room : most_top + most_rest < no_cost

-- every set's value is that of its least split: a part on the new core, where each choice is larger by `shift`, and the rest
-- on the cores below. Where there is none, the key is 0. What stands beyond the sets is as it was.
pub record CoreAdded (n shift : ℕ) (core_costs core_keys costs keys costs' keys' : List ℕ) : Type 0 where
  pub holds : (S : List Bool) → length S ≡ n →
      table_at n costs' keys' S ≡ least_split S (λ T R. add (moved shift (table_at n core_costs core_keys) T) (table_at n costs keys R))
  pub other_costs : drop (2 ^ n) costs' ≡ drop (2 ^ n) costs
  pub other_keys : drop (2 ^ n) keys' ≡ drop (2 ^ n) keys
  pub bounded : (x : ℕ) → x < 2 ^ n → (get_or costs' x 0 < no_cost) ⊎ ((get_or costs' x 0 ≡ no_cost) × (get_or keys' x 0 ≡ 0))
