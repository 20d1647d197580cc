-- `of` adds one item after the other.
use Rattle.set_tables.specs.OwnPatterns.{OwnUpTo}
use Rattle.set_tables.proofs.own.OwnColumns.of.Given as goal

abbrev pub invariant-loop-item : goal.invariant-loop-item
invariant-loop-item l = OwnUpTo l.core.timed l.core.timings.now l.core.cost.now l.item l.own
