-- `earliest` picks as the definition does, one task a turn.
use lib.ListN.{get_or}
use Rattle.dispatch.specs.Columns.{due_in}
use Rattle.dispatch.specs.EarliestSoFar.{Picked}
use Rattle.dispatch.proofs.Columns.earliest.Given as goal

abbrev pub invariant-loop-i : goal.invariant-loop-i
invariant-loop-i l = Picked (due_in l.self.periods.now l.self.windows.now l.tick) (λ k. get_or l.left k 0) l.i l.best
