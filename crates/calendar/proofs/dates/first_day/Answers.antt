-- `dates::first_day` meets its contract: the table's rule is one test, which antt computes over the whole table.
use mathlib.Core.Path.{refl}
use Rattle.calendar.specs.DateLaws.{first_days_are}
use Rattle.calendar.specs.Dates.{from_the_first, follows, length_of_month, month_length, is_leap}
use Rattle.calendar.specs.declared.first_days.TheConstants.{FIRST_DAYS}
use Rattle.calendar.proofs.dates.first_day.Goals as goal

pub returns : goal.returns
unfolding from_the_first follows length_of_month month_length is_leap
returns c = first_days_are FIRST_DAYS refl c.args.month c.requires
