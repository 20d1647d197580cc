use Rattle.std.specs.Prelude.{Err}
use Rattle.std.proofs.Common.{◌≡◌, rules}
use Rattle.formats.specs.ReaderLaws.{first_refused, then_takes}
use Rattle.instance.specs.SiteFile.{tasks}
use Rattle.instance.specs.TasksLaws.{tasks_begin, tasks_more, tasks_refused, tasks_end, tasks_held, tasks_spans}
use Rattle.instance.proofs.tasks.tasks_next.Goals as goal

pub returns-in_err-count : goal.returns-in_err-count
unfolding tasks
returns-in_err-count c = let e : c.from_residual.result ≡ Err c.in_err-count.field-0.0 = search rules in
    rw e (record { takes = first_refused _ c.in_err-count.ensures.takes; read = tt })

pub loop-i-init : goal.loop-i-init
loop-i-init c = tasks_begin _ _ c.in_ok-count.ensures.within.1

pub loop-i-preserved : goal.loop-i-preserved
loop-i-preserved c = tasks_more c.loop-i.invariant c.loop-i-test.true c.in_ok-array.ensures

pub returns-in_err-array : goal.returns-in_err-array
unfolding tasks
returns-in_err-array c =
    let e : c.from_residual-in_err-array.result ≡ Err c.in_err-array.field-0.0 = search rules in
    rw e
    (record { takes = then_takes _ c.in_ok-count.ensures.takes (tasks_refused c.loop-i.invariant c.loop-i-test.true c.in_err-array.ensures); read = tt })

pub returns : goal.returns
unfolding tasks
returns c =
    let loop = c.loop-i in
    record {
      takes = then_takes _ c.in_ok-count.ensures.takes (tasks_end loop.invariant c.loop-i-test.false);
      read = record { held = tasks_held loop.invariant c.loop-i-test.false; spans = tasks_spans loop.invariant c.loop-i-test.false };
    }
