-- `fill_sums` adds one item after the other, from the last on.
use Rattle.std.proofs.Common.{◌-◌, ◌^◌, ◌≡◌}
use Rattle.set_tables.specs.LiftedTables.{NumberedBy}
use Rattle.lagrangian.specs.Lagrangians.{least_priced}
use Rattle.set_tables.proofs.lifting.fill_sums.Given as goal

abbrev pub invariant-loop-i : goal.invariant-loop-i
invariant-loop-i l = (l.half ≡ 2 ^ (l.items - l.i)) × NumberedBy (l.items - l.i) (least_priced l.least l.i) l.sums
