-- `fill_sizes` makes each size from that of half the set's number.
use mathlib.Core.Path.{◌≡◌}
use lib.ListN.{length}
use Rattle.core_tables.specs.ChargedTables.{SizesBelow}
use Rattle.core_tables.proofs.fill_sizes.Given as goal

abbrev pub invariant-loop-x : goal.invariant-loop-x
invariant-loop-x l = (length l.sizes ≡ length l.initial.sizes) × SizesBelow l.items l.x l.sizes
