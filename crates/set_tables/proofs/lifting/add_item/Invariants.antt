-- `add_item` makes each number from that of the set without the item.
use Rattle.set_tables.specs.LiftedTables.{AddedBelow}
use Rattle.set_tables.proofs.lifting.add_item.Given as goal

abbrev pub invariant-loop-x : goal.invariant-loop-x
invariant-loop-x l = AddedBelow l.half l.amount l.x l.initial.sums l.sums
