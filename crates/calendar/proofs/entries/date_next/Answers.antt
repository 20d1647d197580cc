-- `entries::date_next` meets its contract.
use Rattle.std.specs.Prelude.{Err}
use Rattle.std.proofs.Common.{◌≡◌, rules}
use Rattle.formats.specs.ReaderLaws.{first_refused, then_takes, takes_done}
use Rattle.calendar.specs.Calendars.{date_words}
use Rattle.calendar.proofs.entries.date_next.Goals as goal

pub returns-in_err-year : goal.returns-in_err-year
unfolding date_words
returns-in_err-year c =
    let e : c.from_residual.result ≡ Err c.in_err-year.field-0.0 = search rules in
    rw e (record { takes = first_refused _ c.in_err-year.ensures.takes; within = tt })

pub returns-in_err-month : goal.returns-in_err-month
unfolding date_words
returns-in_err-month c =
    let e : c.from_residual-in_err-month.result ≡ Err c.in_err-month.field-0.0 = search rules in
    rw e (record { takes = then_takes _ c.in_ok-year.ensures.takes (first_refused _ c.in_err-month.ensures.takes); within = tt })

pub returns-in_err-day : goal.returns-in_err-day
unfolding date_words
returns-in_err-day c =
    let e : c.from_residual-in_err-day.result ≡ Err c.in_err-day.field-0.0 = search rules in
    rw e
    (record {
      takes = then_takes _ c.in_ok-year.ensures.takes (then_takes _ c.in_ok-month.ensures.takes (first_refused _ c.in_err-day.ensures.takes));
      within = tt;
    })

pub returns : goal.returns
unfolding date_words
returns c =
    let year = c.in_ok-year.ensures in
    let month = c.in_ok-month.ensures in
    let day = c.in_ok-day.ensures in
    record {
      takes = then_takes _ year.takes (then_takes _ month.takes (then_takes _ day.takes (takes_done _)));
      within =
          record {
            from_year = year.within.0;
            to_year = year.within.1;
            from_month = month.within.0;
            to_month = month.within.1;
            from_day = day.within.0;
            to_day = day.within.1;
          };
    }
