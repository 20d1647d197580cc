use native.Mathlib.Omega.{arith}
use Rattle.listing_lines.specs.LinesPut.{none_done, room_for_part, part_done, all_done}
use Rattle.listing_lines.specs.LineLaws.{spaced_one_by_one}
use Rattle.listing_lines.proofs.bytes.Lines.slots.Goals as goal

pub loop-slot-init : goal.loop-slot-init
loop-slot-init c = none_done _ _ _

pub field-requires : goal.field-requires
field-requires c = room_for_part (rw (← spaced_one_by_one _) at c.requires) c.loop-slot.invariant (omega arith)

pub loop-slot-preserved : goal.loop-slot-preserved
loop-slot-preserved c = part_done (rw (← spaced_one_by_one _) at c.requires) c.loop-slot.invariant (omega arith) c.field.ensures

pub returns : goal.returns
returns c = rw spaced_one_by_one at (all_done (rw (← spaced_one_by_one _) at c.requires) c.loop-slot.invariant (omega arith))
