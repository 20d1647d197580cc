-- `core_set` reads one choice after the other, from the first.
use Rattle.set_tables.specs.CoreSets.{SetRead}
use Rattle.set_tables.proofs.sets.core_set.Given as goal

abbrev pub invariant-loop-i : goal.invariant-loop-i
invariant-loop-i l = SetRead l.items l.levels l.core l.key l.power l.rest l.set l._i
