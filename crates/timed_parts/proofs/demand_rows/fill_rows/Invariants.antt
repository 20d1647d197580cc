-- `fill_rows` writes one row after the other.
use Rattle.timed_parts.specs.DemandRows.{DemandRows}
use Rattle.timed_parts.proofs.demand_rows.fill_rows.Given as goal

abbrev pub invariant-loop-n : goal.invariant-loop-n
invariant-loop-n l = DemandRows l.timed l.timings l.n l.rows
