-- `entries::may_follow` meets its contract.
use borrow.Author.Tests.{le-leb, lt-leb}
use Rattle.calendar.specs.Calendars.{may_follow}
use Rattle.calendar.proofs.entries.may_follow.Goals as goal

pub returns-then-date-month_length : goal.returns-then-date-month_length
unfolding may_follow
returns-then-date-month_length c = rw (le-leb _ _ (rw c.month_length.ensures at c.if-date-month_length.true), c.requires.1)

pub returns-else-date-month_length : goal.returns-else-date-month_length
unfolding may_follow
returns-else-date-month_length c = rw (c.month_length.ensures, lt-leb _ _ (rw c.month_length.ensures at c.if-date-month_length.false))
