-- `walk_row` has walked along the slots that it has passed.
use Rattle.sleep.specs.RowWalks.{WalkedTo}
use Rattle.sleep.specs.Rows.{busy_in}
use Rattle.sleep.proofs.rows.walk_row.Given as goal

abbrev pub invariant-loop-slot : goal.invariant-loop-slot
invariant-loop-slot l = WalkedTo l.costs (busy_in l.row) l.slot-index l.walk
