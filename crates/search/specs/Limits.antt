-- What the search asks: within these limits all sums fit 64 bits, and all tables their arrays.
use Rattle.std.specs.Prelude.{ℕ, ◌≤◌, ◌<◌, Bool, List, length, get_or}
use Rattle.assignment.specs.Limits.{most_items, most_cores, most_levels, most_cost}
use Rattle.partition.specs.Tables.{OneCoreTable}
use Rattle.search.specs.declared.Shape.{Shape}

pub record ShapeLimited (shape : Shape) : Type 0 where
  pub items : shape.items ≤ most_items
  pub some_core : 1 ≤ shape.cores
  pub cores : shape.cores ≤ most_cores
  pub levels : shape.levels ≤ most_levels

pub record SearchReady (shape : Shape) (refusal : List ℕ) (must : List Bool) (core_costs core_keys : List ℕ) : Type 0 where
  pub shape_limited : ShapeLimited shape
  pub refusals_for_all : shape.items ≤ length refusal
  pub musts_for_all : shape.items ≤ length must
  pub refusals_limited : (i : ℕ) → i < shape.items → get_or refusal i 0 ≤ most_cost
  pub core_table : OneCoreTable shape.items shape.levels core_costs core_keys
