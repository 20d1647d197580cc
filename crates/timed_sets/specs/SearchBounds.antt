-- When the bounds of a search may be relied on.
use Rattle.std.specs.Prelude.{ℕ, List}
use Rattle.lagrangian.specs.Lagrangians.{Relaxes}
use Rattle.timed_sets.specs.Found.{LowerTimed}
use Rattle.timed_parts.specs.declared.Bounded.{Bounded}

-- what leaves parts of patterns out of a search: a table of lower values, and a relaxation
pub record BoundsHold (bounded : Bounded) (timings cost low_costs low_keys : List ℕ) : Type 0 where
  pub table : LowerTimed bounded.timed timings cost low_costs low_keys
  pub relaxation : Relaxes bounded.timed timings cost bounded.relaxed
