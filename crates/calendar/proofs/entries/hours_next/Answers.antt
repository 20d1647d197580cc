-- `entries::hours_next` meets its contract.
use Rattle.std.specs.Prelude.{Err, refl}
use Rattle.std.proofs.Common.{◌≡◌, rules, add-one}
use Rattle.formats.specs.ReaderLaws.{first_refused, then_takes, takes_done}
use Rattle.calendar.specs.Calendars.{hours_words}
use Rattle.calendar.proofs.entries.hours_next.Goals as goal

pub returns-in_err-opening : goal.returns-in_err-opening
unfolding hours_words
returns-in_err-opening c =
    let e : c.from_residual.result ≡ Err c.in_err-opening.field-0.0 = search rules in
    rw e (record { takes = first_refused _ c.in_err-opening.ensures.takes; same_date = tt })

pub returns-in_err-closing : goal.returns-in_err-closing
unfolding hours_words
returns-in_err-closing c =
    let e : c.from_residual-in_err-closing.result ≡ Err c.in_err-closing.field-0.0 = search rules in
    rw e
    (record {
      takes = then_takes _ c.in_ok-opening.ensures.takes (first_refused _ (rw (add-one c.in_ok-opening.opening) at c.in_err-closing.ensures.takes));
      same_date = tt;
    })

pub returns-in_err-plan : goal.returns-in_err-plan
unfolding hours_words
returns-in_err-plan c =
    let e : c.from_residual-in_err-plan.result ≡ Err c.in_err-plan.field-0.0 = search rules in
    rw e
    (record {
      takes =
          then_takes _ c.in_ok-opening.ensures.takes
          (then_takes _ (rw (add-one c.in_ok-opening.opening) at c.in_ok-closing.ensures.takes) (first_refused _ c.in_err-plan.ensures.takes));
      same_date = tt;
    })

pub returns : goal.returns
unfolding hours_words
returns c =
    record {
      takes =
          then_takes _ c.in_ok-opening.ensures.takes
          (then_takes _ (rw (add-one c.in_ok-opening.opening) at c.in_ok-closing.ensures.takes)
          (then_takes _ c.in_ok-plan.ensures.takes (takes_done _)));
      same_date = refl;
    }
