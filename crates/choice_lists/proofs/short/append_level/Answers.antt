use Rattle.std.proofs.Common.{◌≡◌, ◌∙◌, add-one, arith, ap}
use Rattle.choice_lists.specs.AppendLaws.{append_nothing, append_over, append_stored}
use Rattle.choice_lists.specs.PointLaws.{point_older}
use Rattle.choice_lists.specs.Spread.{sum_of}
use Rattle.knapsack.specs.declared.relaxing.Choice.{Choice}
use Rattle.choice_lists.proofs.short.append_level.Goals.{then-sum-capacity, else-sum-capacity}
use Rattle.choice_lists.proofs.short.append_level.Goals as goal

pub loop-p-init : goal.loop-p-init
loop-p-init c = append_nothing _

pub returns : goal.returns
returns c =
    let at = c.loop-p in
    let all : at.p ≡ c.args.part.to = omega arith in
    rw all at at.invariant

pub loop-p-preserved : goal.loop-p-preserved
loop-p-preserved c =
    let fits = c.requires in
    let at = c.loop-p in
    let sofar = at.invariant in
    let sum = c.sum_of-sum.ensures ∙ ap (λ (x : Choice). sum_of c.args.choice x) (point_older sofar.older at.p (omega (arith, fits.behind))) in
    rw add-one
    (elim c.if-sum-capacity.branch [
      | then-sum-capacity w ↦ rw (w.points-is, w.end-is, add-one, sum)
          (append_stored (omega arith) sofar (rw sum at w.if-sum-capacity.true) (omega (arith, fits.room, sofar.few)))
      | else-sum-capacity w ↦ rw (w.points-is, w.end-is) (append_over (omega arith) sofar (rw sum at w.if-sum-capacity.false))
    ])
