-- `hours::days_to_later` meets its contract.
use borrow.Author.Tests.{eq-eqb, ne_eqb}
use Rattle.calendar.specs.Sections.{days_or_to}
use Rattle.calendar.proofs.hours.days_to_later.Goals as goal

pub returns-then-days-eq0 : goal.returns-then-days-eq0
unfolding days_or_to
returns-then-days-eq0 c = rw (eq-eqb _ _ c.if-days-eq0.true)

pub returns : goal.returns
unfolding days_or_to
returns c = rw (ne_eqb _ _ c.if-days-eq0.false)
