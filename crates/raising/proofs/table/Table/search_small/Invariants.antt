-- `search_small` leaves a table of lower values behind, whichever sets are small.
use Rattle.raising.specs.Tables.{TableRaised}
use Rattle.raising.proofs.table.Table.search_small.Given as goal

abbrev pub invariant-loop-set : goal.invariant-loop-set
invariant-loop-set l = TableRaised l.offer l.self
