-- The best plan's value from the tables of the two halves of the cores.
use Rattle.std.specs.Prelude.{ℕ, ◌+◌, ◌*◌, ◌≤◌, ◌<◌, Bool, List, length, get_or}
use Rattle.assignment.specs.Limits.{most_items, most_cost}
use Rattle.assignment.specs.Keys.{key_base}
use Rattle.assignment.specs.Values.{Value, add}
use Rattle.assignment.specs.Words.{no_cost}
use Rattle.assignment.specs.Sets.{table_at}
use Rattle.assignment.specs.Partition.{least_split, moved}
use Rattle.assignment.specs.Refusing.{every, refusing}
use Rattle.values.specs.Items.{items_of}
use Rattle.partition.specs.Tables.{SmallTable}

-- what refusing of all n items asks: real costs stay real with all refusals
pub record OneReady (n : ℕ) (refusal : List ℕ) (must : List Bool) (costs keys : List ℕ) : Type 0 where
  pub few_items : n ≤ most_items
  pub refusals_long : n ≤ length refusal
  pub musts_long : n ≤ length must
  pub refusal_bound : (i : ℕ) → i < n → get_or refusal i 0 ≤ most_cost
  pub most : ℕ
  pub table : SmallTable n most costs keys
  pub room : most + n * most_cost < no_cost

pub record HalvesReady (n shift : ℕ) (tops top_keys refusal : List ℕ) (must : List Bool) (costs keys : List ℕ) : Type 0 where
  pub small_shift : shift < key_base
  pub most_top : ℕ
  pub top_table : SmallTable n most_top tops top_keys
  pub lower : OneReady n refusal must costs keys
  pub room : most_top + (lower.most + n * most_cost) < no_cost

-- keeping what is best of a set, by a table
unfoldable pub kept_best : ℕ → List ℕ → List Bool → (costs keys : List ℕ) → List Bool → Value
kept_best n refusal must costs keys = refusing (items_of refusal must n) (table_at n costs keys)

-- the least over all parts for the upper cores, where each choice is larger by `shift`
unfoldable pub least_over_halves : (n shift : ℕ) (tops top_keys refusal : List ℕ) (must : List Bool) (costs keys : List ℕ) → Value
least_over_halves n shift tops top_keys refusal must costs keys =
    least_split (every n) (λ U R. add (moved shift (table_at n tops top_keys) U) (kept_best n refusal must costs keys R))
