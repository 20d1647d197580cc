-- `tasks::task_next` meets its contract.
use Rattle.std.specs.Prelude.{Err}
use Rattle.std.proofs.Common.{◌≡◌, rules}
use mathlib.Core.Path.{refl, ap, ◌∙◌}
use native.Mathlib.Omega.{arith}
use borrow.Author.Tests.{le-leb, lt-leb}
use Rattle.laws.specs.MultiplesLaws.{lcm_above_zero}
use Rattle.ranges.specs.Limits
use Rattle.formats.specs.ReaderLaws.{first_refused, then_takes, takes_done, tested_refused, tested_passes, tested_fails}
use Rattle.instance.specs.SiteFile.{period, task}
use Rattle.instance.proofs.tasks.task_next.Goals as goal

pub returns-in_err-period : goal.returns-in_err-period
unfolding task period
returns-in_err-period c =
    let e : c.from_residual.result ≡ Err c.in_err-period.field-0.0 = search rules in
    rw e
    (record { takes = first_refused {middle = c.args.words.now} _ (tested_refused _ _ c.in_err-period.ensures.takes); spans = tt; within = c.requires })

pub returns-then-longer-gt-MOST_SPAN : goal.returns-then-longer-gt-MOST_SPAN
unfolding task period
returns-then-longer-gt-MOST_SPAN c =
    rw c.place-first.ensures
    (record {
      takes =
          first_refused {middle = c.args.words.now} _
          (tested_fails _ _ c.in_ok-period.ensures.takes
          (rw (← c.least_common_multiple-longer.ensures) (lt-leb _ _ c.if-longer-gt-MOST_SPAN.true)));
      spans = tt;
      within = c.requires;
    })

pub returns-in_err-cycles : goal.returns-in_err-cycles
unfolding task period
returns-in_err-cycles c =
    let e : c.from_residual-in_err-cycles.result ≡ Err c.in_err-cycles.field-0.0 = search rules in
    rw e
    (record {
      takes =
          then_takes _
          (tested_passes _ _ c.in_ok-period.ensures.takes
          (rw (← c.least_common_multiple-longer.ensures) (le-leb _ _ c.if-longer-gt-MOST_SPAN.false)))
          (first_refused _ c.in_err-cycles.ensures.takes);
      spans = tt;
      within = c.requires;
    })

pub returns-in_err-penalty : goal.returns-in_err-penalty
unfolding task period
returns-in_err-penalty c =
    let e : c.from_residual-in_err-penalty.result ≡ Err c.in_err-penalty.field-0.0 = search rules in
    rw e
    (record {
      takes =
          then_takes _
          (tested_passes _ _ c.in_ok-period.ensures.takes
          (rw (← c.least_common_multiple-longer.ensures) (le-leb _ _ c.if-longer-gt-MOST_SPAN.false)))
          (then_takes _ c.in_ok-cycles.ensures.takes (first_refused _ c.in_err-penalty.ensures));
      spans = tt;
      within = c.requires;
    })

pub returns : goal.returns
unfolding task period
returns c =
    let above = lcm_above_zero c.args.span.now _ c.in_ok-period.ensures.within.0 in
    record {
      takes =
          then_takes _
          (tested_passes _ _ c.in_ok-period.ensures.takes
          (rw (← c.least_common_multiple-longer.ensures) (le-leb _ _ c.if-longer-gt-MOST_SPAN.false)))
          (then_takes _ c.in_ok-cycles.ensures.takes (then_takes _ c.in_ok-penalty.ensures (takes_done _)));
      spans = c.least_common_multiple-longer.ensures;
      within = record { above_zero = rw c.least_common_multiple-longer.ensures above; at_most = c.if-longer-gt-MOST_SPAN.false };
    }
