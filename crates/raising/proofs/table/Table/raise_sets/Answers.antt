use native.Mathlib.Omega.{arith}
use Rattle.partition.specs.Tables.{room_for_sets}
use Rattle.raising.specs.SiteLaws.{next_set_below, set_was_exact, set_was_tried}
use Rattle.raising.proofs.table.Table.raise_sets.Goals.{then-open, else-open}
use Rattle.raising.proofs.table.Table.raise_sets.Goals as goal

pub offset_bounds-self-set : goal.offset_bounds-self-set
offset_bounds-self-set c = omega (arith, next_set_below c.loop-core.invariant.1 c.core_set-set.ensures, room_for_sets c.args.offer.now.ready.limits.items)

pub bounds-self-set : goal.bounds-self-set
bounds-self-set c = omega (arith, next_set_below c.loop-core.invariant.1 c.core_set-set.ensures, room_for_sets c.args.offer.now.ready.limits.items)

pub try_set-requires-clause-set_bound : goal.try_set-requires-clause-set_bound
try_set-requires-clause-set_bound c = next_set_below c.loop-core.invariant.1 c.core_set-set.ensures

pub loop-core-preserved : goal.loop-core-preserved
loop-core-preserved c =
    let at = c.loop-core.invariant in
    let is = c.core_set-set.ensures in
    elim c.if-open.branch [
      | then-open w ↦ rw (w.self-is, w.raised-is) (omega arith, set_was_tried at.1 is w.try_set.ensures)
      | else-open w ↦ rw (w.self-is, w.raised-is) (omega arith, set_was_exact at.1 is (omega (arith, w.if-open.false)))
    ]
