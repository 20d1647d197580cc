use Rattle.std.specs.Prelude.{Err}
use Rattle.std.proofs.Common.{◌≡◌, rules}
use Rattle.formats.specs.ReaderLaws.{first_refused, then_takes}
use Rattle.instance.specs.LevelsLaws.{levels_begin, levels_more, levels_refused, levels_end, levels_filled}
use Rattle.instance.specs.SiteFile.{levels}
use Rattle.instance.proofs.levels.levels_next.Goals as goal

pub returns-in_err-count : goal.returns-in_err-count
unfolding levels
returns-in_err-count c = let e : c.from_residual.result ≡ Err c.in_err-count.field-0.0 = search rules in
    rw e (record { takes = first_refused _ c.in_err-count.ensures.takes; filled = tt })

pub loop-i-init : goal.loop-i-init
loop-i-init c = levels_begin _ _ c.in_ok-count.ensures.within.1

pub loop-i-preserved : goal.loop-i-preserved
loop-i-preserved c = levels_more c.loop-i.invariant c.loop-i-test.true c.in_ok-before.ensures

pub returns-in_err-before : goal.returns-in_err-before
unfolding levels
returns-in_err-before c =
    let e : c.from_residual-in_err-before.result ≡ Err c.in_err-before.field-0.0 = search rules in
    rw e
    (record { takes = then_takes _ c.in_ok-count.ensures.takes (levels_refused c.loop-i.invariant c.loop-i-test.true c.in_err-before.ensures); filled = tt })

pub returns : goal.returns
unfolding levels
returns c =
    let loop = c.loop-i in
    record {
      takes = then_takes _ c.in_ok-count.ensures.takes (levels_end loop.invariant c.loop-i-test.false);
      filled = levels_filled loop.invariant c.loop-i-test.false;
    }
