-- `hours::ruled_with` meets its contract.
use native.Mathlib.Omega.{arith}
use borrow.Author.Tests.{le-leb, lt-leb}
use Rattle.calendar.specs.Sections.{ruled_with}
use Rattle.calendar.proofs.hours.ruled_with.Goals as goal

pub returns-then-number-asked : goal.returns-then-number-asked
unfolding ruled_with
returns-then-number-asked c =
    rw (← c.requires, le-leb c.args.number c.args.asked (omega arith), c.plan_of-plan.ensures)

pub returns : goal.returns
unfolding ruled_with
returns c =
    rw (← c.requires, lt-leb c.args.number c.args.asked (omega arith), c.days_to_later-days.ensures)
