use Rattle.std.proofs.Common.{suc, ◌-◌, ◌≡◌, refl, arith}
use Rattle.set_tables.specs.LiftingLaws.{no_item_yet, room_for_item, one_item_more}
use Rattle.set_tables.proofs.lifting.fill_sums.Goals as goal

pub loop-i-init : goal.loop-i-init
loop-i-init c =
    let none : c.args.items - c.args.items ≡ 0 = omega arith in
    (rw none refl, rw none (no_item_yet c.requires))

pub add_item-requires : goal.add_item-requires
add_item-requires c =
    let at = c.loop-i in
    let is : at.i ≡ suc (at.i - 1) = omega arith in
    room_for_item c.requires (rw is at at.invariant.1) (omega (arith, at.auto.i)) (rw is at at.invariant.0) at.auto.sums

pub loop-i-preserved : goal.loop-i-preserved
loop-i-preserved c =
    let at = c.loop-i in
    let is : at.i ≡ suc (at.i - 1) = omega arith in
    one_item_more c.requires (rw is at at.invariant.1) (omega (arith, at.auto.i)) (rw is at at.invariant.0) at.auto.sums c.add_item.ensures
