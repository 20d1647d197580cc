use Rattle.std.specs.Prelude.{[], Err}
use Rattle.std.proofs.Common.{◌≡◌, rules}
use native.Mathlib.Omega.{arith}
use Rattle.formats.specs.ReaderLaws.{first_refused, then_takes}
use Rattle.calendar.specs.Calendars.{entries}
use Rattle.calendar.specs.SectionLaws.{entries_begin, entries_more, entries_refused, entries_end}
use Rattle.calendar.proofs.entries.entries_next.Goals as goal

pub returns-in_err-count : goal.returns-in_err-count
unfolding entries
returns-in_err-count c =
    let e : c.from_residual.result ≡ Err c.in_err-count.field-0.0 = search rules in
    rw e (record { taken = []; takes = first_refused _ c.in_err-count.ensures.takes; ruled_is = tt })

pub loop-init : goal.loop-init
loop-init c = entries_begin _ _ _ _

pub returns-in_err-next : goal.returns-in_err-next
unfolding entries
returns-in_err-next c =
    let e : c.from_residual-in_err-next.result ≡ Err c.in_err-next.field-0.0 = search rules in
    rw e
    (record {
      taken = [];
      takes = then_takes _ c.in_ok-count.ensures.takes (entries_refused c.loop.invariant c.loop-test.true c.in_err-next.ensures);
      ruled_is = tt;
    })

pub overflow_add-free : goal.overflow_add-free
overflow_add-free c = omega (arith, c.in_ok-next.ensures.day.number_at_most)

pub ruled_with-ruled-requires : goal.ruled_with-ruled-requires
ruled_with-ruled-requires c = c.in_ok-next.ensures.day.numbered

pub loop-preserved : goal.loop-preserved
loop-preserved c = entries_more c.loop.invariant c.loop-test.true c.in_ok-next.ensures c.ruled_with-ruled.ensures

pub returns : goal.returns
returns c = entries_end c.loop.invariant c.in_ok-count.ensures.takes c.loop-test.false
