use Rattle.std.proofs.Common.{sym, ◌∙◌, ◌≡◌, ◌≤◌, refl, suc, add-one, arith}
use Rattle.values.specs.WorthLaws.{less_first, less_not_first}
use Rattle.choice_lists.specs.SweepLaws.{loads_swept, worth_swept, gathered_none, gathered_skip, gathered_more, gathered_all}
use Rattle.choice_lists.proofs.long.sweep.Goals.{then-lt, else-lt}
use Rattle.choice_lists.proofs.long.sweep.Goals as goal

pub loop-load-init : goal.loop-load-init
loop-load-init c = gathered_none _ _ refl refl

pub returns : goal.returns
returns c =
    let at = c.loop-load in
    let all : at.load ≡ suc c.args.capacity = omega (arith, loads_swept c.args.spread.now c.requires.long) in
    gathered_all c.requires.room (rw all at at.invariant)

pub loop-load-preserved : goal.loop-load-preserved
loop-load-preserved c =
    let sofar = c.loop-load.invariant in
    let within : c.loop-load.load ≤ c.args.capacity = omega (arith, loads_swept c.args.spread.now c.requires.long) in
    let worth = worth_swept c.args.spread.now within in
    let tells = rw worth at c.lt.ensures in
    rw add-one
    (elim c.if-lt.branch [
      | then-lt w ↦ rw (w.points-is, w.best-is, w.to-is, worth, add-one)
          (gathered_more sofar within (omega (arith, c.requires.room, sofar.few)) (less_first (sym tells ∙ w.if-lt.true)))
      | else-lt w ↦ rw (w.points-is, w.best-is, w.to-is) (gathered_skip sofar (less_not_first (sym tells ∙ w.if-lt.false)))
    ])
