use Rattle.std.specs.Prelude.{Err}
use Rattle.std.proofs.Common.{◌≡◌, rules}
use mathlib.Core.Path.{◌∙◌}
use native.Mathlib.Omega.{arith}
use lib.ListN.{length-set}
use Rattle.instance.specs.DeadlinesLaws.{deadlines_begin, deadlines_more, deadlines_refused, deadlines_end}
use Rattle.instance.proofs.deadlines.each_deadline_next.Goals as goal

pub loop-task-init : goal.loop-task-init
loop-task-init c = deadlines_begin _ _

pub loop-task-preserved : goal.loop-task-preserved
loop-task-preserved c = deadlines_more c.loop-task.invariant (omega arith) c.in_ok-task.ensures

pub returns-in_err-task : goal.returns-in_err-task
returns-in_err-task c =
    let e : c.from_residual.result ≡ Err c.in_err-task.field-0.0 = search rules in
    rw e
    (record { takes = deadlines_refused c.loop-task.invariant (omega arith) c.in_err-task.ensures; same_length = length-set _ _ _ ∙ c.loop-task.invariant.same_length })

pub returns : goal.returns
returns c = record { takes = deadlines_end c.loop-task.invariant (omega arith); same_length = c.loop-task.invariant.same_length }
