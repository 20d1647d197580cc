-- `least_in_rounds` ends: a round that is not the last tries a set.
use Rattle.raising.specs.RaisedTables.{tries_left}
use Rattle.raising.specs.Tables.{TableRaised}
use Rattle.raising.proofs.table.Table.least_in_rounds.Given as goal

abbrev pub invariant-loop-best : goal.invariant-loop-best
invariant-loop-best l = TableRaised l.offer l.self

abbrev pub decreases-loop-best : goal.decreases-loop-best
decreases-loop-best l = tries_left l.offer.site.items l.self.left
