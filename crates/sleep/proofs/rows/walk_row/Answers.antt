use Rattle.sleep.specs.RowLaws.{busy_in_row}
use Rattle.sleep.specs.RowWalkLaws.{walk_begins}
use Rattle.sleep.proofs.rows.walk_row.Goals as goal

pub loop-slot-init : goal.loop-slot-init
loop-slot-init c = walk_begins _ _

pub loop-slot-preserved : goal.loop-slot-preserved
loop-slot-preserved c = c.past_slot-walk.ensures.goes_on _ _ (busy_in_row _ _ c.loop-slot-test.true) c.loop-slot.invariant
