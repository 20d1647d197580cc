-- `deadlines::is_deadline_count` meets its contract.
use Rattle.instance.specs.SiteFile.{is_deadline_count}
use borrow.Author.Tests.{eq-eqb, ne_eqb}
use Rattle.instance.proofs.deadlines.is_deadline_count.Goals as goal

pub returns-then-count-eq0 : goal.returns-then-count-eq0
unfolding is_deadline_count
returns-then-count-eq0 c = rw (eq-eqb _ 0 c.if-count-eq0.true)

pub returns-else-count-eq0 : goal.returns-else-count-eq0
unfolding is_deadline_count
returns-else-count-eq0 c = rw (ne_eqb _ 0 c.if-count-eq0.false)
