-- `settle_own` makes one set after the other exact whose own pattern is admitted.
use Rattle.raising.specs.OwnSets.{OwnSettled}
use Rattle.raising.specs.Tables.{TableRaised}
use Rattle.raising.proofs.table.Table.settle_own.Given as goal

abbrev pub invariant-loop-set : goal.invariant-loop-set
invariant-loop-set l = TableRaised l.offer l.self × OwnSettled l.offer.site l.offer.timings.now l.offer.cost.now l.set l.self.left
