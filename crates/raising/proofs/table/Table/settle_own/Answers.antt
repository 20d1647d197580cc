use Prim.Native.Nat.{◌^◌, ◌<◌}
use native.Mathlib.Omega.{arith}
use Rattle.raising.specs.OwnSets.{own_settled, own_left}
use Rattle.raising.proofs.table.Table.settle_own.Goals as goal
use Rattle.raising.proofs.table.Table.settle_own.Goals.{then-admitted, else-admitted}

pub loop-set-preserved : goal.loop-set-preserved
loop-set-preserved c =
    let ready = c.args.offer.now.ready in
    let own = rw c.timed.ensures at c.fill_own.ensures in
    let at = c.loop-set.invariant in
    let under : c.loop-set.set < 2 ^ c.args.offer.now.site.items = omega (arith, c.sets_of-set-end.ensures) in
    elim c.if-admitted.branch [
      | then-admitted w ↦ rw w.self-is (own_settled ready own under at.0 at.1 w.if-admitted.true)
      | else-admitted w ↦ rw w.self-is (at.0, own_left ready own under at.0 at.1 (omega (arith, w.if-admitted.false)))
    ]
