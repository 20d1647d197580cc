use Rattle.std.proofs.Common.{add-one, arith}
use Rattle.values.specs.WorthLaws.{min_is_lesser}
use Rattle.choice_lists.specs.SpreadLevels.{spread_nothing, spread_over, spread_lowered}
use Rattle.choice_lists.proofs.long.spread_level.Goals.{then-sum-capacity, else-sum-capacity}
use Rattle.choice_lists.proofs.long.spread_level.Goals as goal

pub loop-point-init : goal.loop-point-init
loop-point-init c = spread_nothing _

pub loop-point-preserved : goal.loop-point-preserved
loop-point-preserved c =
    let sofar = c.loop-point.invariant in
    let sum = c.sum_of-sum.ensures in
    rw add-one
    (elim c.if-sum-capacity.branch [
      | then-sum-capacity w ↦ rw (w.spread-is, w.min.ensures, min_is_lesser, sum)
          (spread_lowered (omega arith) sofar (rw sum at w.if-sum-capacity.true) (c.requires.sums_small.real c.loop-point.point-index (omega arith) c.loop-point-test.true) (omega (arith, c.requires.long)))
      | else-sum-capacity w ↦ rw w.spread-is (spread_over (omega arith) sofar (rw sum at w.if-sum-capacity.false))
    ])
