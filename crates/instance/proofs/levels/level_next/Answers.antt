-- `levels::level_next` meets its contract.
use Rattle.std.specs.Prelude.{Err}
use Rattle.std.proofs.Common.{◌≡◌, rules}
use Rattle.std.proofs.Common.{add-one}
use Rattle.formats.specs.ReaderLaws.{first_refused, then_takes, takes_done}
use Rattle.instance.specs.SiteFile.{level}
use Rattle.instance.proofs.levels.level_next.Goals as goal

pub returns-in_err-speed : goal.returns-in_err-speed
unfolding level
returns-in_err-speed c =
    let e : c.from_residual.result ≡ Err c.in_err-speed.field-0.0 = search rules in
    rw e
    (record { takes = first_refused _ (rw (add-one c.args.before.speed) at c.in_err-speed.ensures.takes); within = tt })

pub returns-in_err-power : goal.returns-in_err-power
unfolding level
returns-in_err-power c =
    let e : c.from_residual-in_err-power.result ≡ Err c.in_err-power.field-0.0 = search rules in
    rw e
    (record {
      takes =
          then_takes _ (rw (add-one c.args.before.speed) at c.in_ok-speed.ensures.takes)
          (first_refused _ (rw (add-one c.args.before.power) at c.in_err-power.ensures.takes));
      within = tt;
    })

pub returns : goal.returns
unfolding level
returns c =
    record {
      takes =
          then_takes _ (rw (add-one c.args.before.speed) at c.in_ok-speed.ensures.takes)
          (then_takes _ (rw (add-one c.args.before.power) at c.in_ok-power.ensures.takes) (takes_done _));
      within = record { speed = c.in_ok-speed.ensures.within.1; power = c.in_ok-power.ensures.within.1 };
    }
