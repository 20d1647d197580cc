-- `entries::entry_next` meets its contract.
use Rattle.std.specs.Prelude.{Err}
use Rattle.std.proofs.Common.{◌≡◌, rules}
use mathlib.Core.Path.{sym, ap, ◌∙◌}
use Rattle.formats.specs.ReaderLaws.{first_refused, then_takes, tested_refused, tested_passes, tested_fails}
use Rattle.calendar.specs.Calendars.{entry}
use Rattle.calendar.specs.DateLaws.{day_number_at_most}
use Rattle.calendar.specs.Dates.{day_number}
use Rattle.calendar.proofs.entries.entry_next.Goals as goal

pub day_number-number-requires : goal.day_number-number-requires
day_number-number-requires c = c.in_ok-date.ensures.within

pub may_follow-requires : goal.may_follow-requires
may_follow-requires c = (c.in_ok-date.ensures.within, c.day_number-number.ensures)

pub returns-in_err-date : goal.returns-in_err-date
unfolding entry
returns-in_err-date c =
    let e : c.from_residual.result ≡ Err c.in_err-date.field-0.0 = search rules in
    rw e (record { takes = tested_refused {middle = c.args.words.now} _ _ (first_refused _ c.in_err-date.ensures.takes); day = tt })

pub returns-in-Err : goal.returns-in-Err
unfolding entry
returns-in-Err c =
    let hours = rw c.in-Err.is at c.hours_next.ensures in
    record { takes = tested_refused _ _ (then_takes _ c.in_ok-date.ensures.takes hours.takes); day = tt }

pub returns-then-not-may_follow : goal.returns-then-not-may_follow
unfolding entry
returns-then-not-may_follow c =
    let hours = rw c.in-Ok.is at c.hours_next.ensures in
    rw c.place-first.ensures
    (record {
      takes =
          tested_fails _ _ (then_takes _ c.in_ok-date.ensures.takes hours.takes)
          (rw (hours.same_date, ← c.may_follow.ensures) c.if-not-may_follow.true);
      day = tt;
    })

pub returns : goal.returns
unfolding entry
returns c =
    let dated = c.in_ok-date.ensures in
    let hours = rw c.in-Ok.is at c.hours_next.ensures in
    let number = c.day_number-number.ensures in
    record {
      takes = tested_passes _ _ (then_takes _ dated.takes hours.takes) (rw (hours.same_date, ← c.may_follow.ensures) c.if-not-may_follow.false);
      day =
          record {
            numbered = number ∙ ap day_number (sym hours.same_date);
            number_at_most = rw number (day_number_at_most _ dated.within);
          };
    }
