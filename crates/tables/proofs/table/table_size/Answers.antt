use native.Mathlib.Omega.{arith}
use Rattle.tables.specs.HeldTables.{held_table_size, table_size_at_most}
use Rattle.tables.proofs.table.table_size.Goals as goal

pub overflow_mul-result : goal.overflow_mul-result
overflow_mul-result c = let s = c.requires in omega (arith, held_table_size _ s, table_size_at_most _ s.valid)

pub returns : goal.returns
returns c = held_table_size _ c.requires
