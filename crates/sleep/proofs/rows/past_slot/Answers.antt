use borrow.Author.Tests.{eq-eqb, ne_eqb}
use Rattle.sleep.specs.RowWalkLaws.{passes_idle, passes_busy, passes_first_busy}
use Rattle.sleep.proofs.rows.past_slot.Goals as goal

pub returns-then-slot-eq0 : goal.returns-then-slot-eq0
returns-then-slot-eq0 c = rw (eq-eqb _ 0 c.if-slot-eq0.true) (passes_idle _ _)

pub returns-in-None : goal.returns-in-None
returns-in-None c = rw (ne_eqb _ 0 c.if-slot-eq0.false) (passes_first_busy _ _ c.in-None.is)

pub returns-in-Some : goal.returns-in-Some
returns-in-Some c = rw (ne_eqb _ 0 c.if-slot-eq0.false, c.with_gap.ensures) (passes_busy _ _ _ c.in-Some.is)
