-- `fill_start` lifts the lowest entries twice, and drops those of sets that are not served at their fewest ticks.
use native.Mathlib.Omega.{arith}
use Rattle.partition.specs.Tables.{room_for_sets}
use Rattle.raising.specs.DroppedLaws.{site_dropped}
use Rattle.timed_parts.specs.ServableLaws.{no_items_served}
use Rattle.set_tables.specs.DroppingLaws.{all_sets_dropped}
use Rattle.raising.specs.StartTables.{start_raised}
use Rattle.raising.proofs.table.Table.fill_start.Goals as goal

pub fill_lowest-requires : goal.fill_lowest-requires
fill_lowest-requires c =
    let ready = c.args.offer.now.ready in
    let room = room_for_sets ready.limits.items in
    record { few_items = ready.limits.items; whole_limited = ready.whole_limited; costs_for_all = omega (arith, room); keys_for_all = omega (arith, room); empty = c.requires.costs_value }

pub lift-requires-clause-raised : goal.lift-requires-clause-raised
lift-requires-clause-raised c =
    let lowest = c.fill_lowest.ensures in
    rw (lowest.same_left, c.requires.untried) (start_raised c.args.offer.now.ready lowest.lowest)

pub drop_unserved-requires-clause-set_value : goal.drop_unserved-requires-clause-set_value
drop_unserved-requires-clause-set_value c = no_items_served _ _ _

pub returns : goal.returns
returns c =
    let ready = c.args.offer.now.ready in
    site_dropped c.args.offer.now.site _ ready.timed.timed_items (rw c.timed-timed.ensures at c.fewest_column-fewest.ensures) c.lift-2.ensures.lifted
    (all_sets_dropped (rw c.timed-timed.ensures at c.drop_unserved.ensures))
