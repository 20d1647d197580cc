use Rattle.dispatch.specs.ReleaseLaws.{no_task_yet, next_of_one_more}
use Rattle.dispatch.proofs.Columns.soonest_release.Goals as goal

pub loop-period-init : goal.loop-period-init
loop-period-init c = no_task_yet _ _ _ c.requires

pub loop-period-preserved : goal.loop-period-preserved
loop-period-preserved c =
    let at = c.loop-period in
    let next = c.next_release-soonest.ensures in
    next_of_one_more _ _ _ at.period-index at.soonest _ at.invariant next.upper_bound next.lower_bound.0 next.lower_bound.1
