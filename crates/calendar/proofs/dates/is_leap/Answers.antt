-- `dates::is_leap` meets its contract: each test decides one part of the definition.
use mathlib.Core.Bool.{and-true, and-false}
use borrow.Author.Tests.{eq-eqb, ne_eqb}
use Rattle.calendar.specs.Dates.{is_leap}
use Rattle.calendar.proofs.dates.is_leap.Goals as goal

pub returns-then-year-eq0 : goal.returns-then-year-eq0
unfolding is_leap
returns-then-year-eq0 c = rw (eq-eqb _ _ c.if-year-eq0.true)

pub returns-then-year-eq0-2 : goal.returns-then-year-eq0-2
unfolding is_leap
returns-then-year-eq0-2 c = rw (ne_eqb _ _ c.if-year-eq0.false, eq-eqb _ _ c.if-year-eq0-2.true, and-false)

pub returns : goal.returns
unfolding is_leap
returns c = rw (ne_eqb _ _ c.if-year-eq0.false, ne_eqb _ _ c.if-year-eq0-2.false, and-true)
