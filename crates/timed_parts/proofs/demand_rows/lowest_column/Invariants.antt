-- `lowest_column` takes one open item after the other.
use Rattle.timed_parts.specs.DemandRows.{LowestColumn}
use Rattle.timed_parts.proofs.demand_rows.lowest_column.Given as goal

abbrev pub invariant-loop-item : goal.invariant-loop-item
invariant-loop-item l = LowestColumn l.timed l.node l.rows l.item l.column
