-- `fewest_ticks` takes one level after the other.
use Rattle.timed_parts.specs.TickColumns.{FewestTicks}
use Rattle.timed_parts.proofs.servable.fewest_ticks.Given as goal

abbrev pub invariant-loop-level : goal.invariant-loop-level
invariant-loop-level l = FewestTicks l.timings l.item l.level l.fewest
