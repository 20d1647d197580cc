-- `dates::february_length` meets its contract.
use Rattle.calendar.proofs.dates.february_length.Goals as goal

pub returns-then-is_leap : goal.returns-then-is_leap
returns-then-is_leap c = rw (← c.is_leap.ensures, c.if-is_leap.true)

pub returns : goal.returns
returns c = rw (← c.is_leap.ensures, c.if-is_leap.false)
