-- `lift_all` lifts the entry of one set after the other.
use Rattle.set_tables.specs.LiftedTables.{LiftedBelow}
use Rattle.set_tables.proofs.lifting.lift_all.Given as goal

abbrev pub invariant-loop-x : goal.invariant-loop-x
invariant-loop-x l =
    LiftedBelow l.items l.relaxed l.x l.initial.costs l.initial.keys l.costs l.keys
