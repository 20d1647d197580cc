-- `refuse_item` lowers one set after the other.
use Rattle.partition.specs.RefusedTables.{ItemRefused}
use Rattle.partition.proofs.keeping.refuse_item.Given as goal

abbrev pub invariant-loop-x : goal.invariant-loop-x
invariant-loop-x l = ItemRefused l.half l.s l.refusal l.x l.initial.costs l.initial.keys l.costs l.keys
