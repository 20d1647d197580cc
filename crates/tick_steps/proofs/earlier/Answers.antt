use Rattle.tick_steps.specs.Choosing.{Earlier}
use Rattle.tick_steps.proofs.earlier.Goals as goal

pub returns-then-left-eq0 : goal.returns-then-left-eq0
returns-then-left-eq0 c = Earlier.passed_idle c.if-left-eq0.true

pub returns-in-Some : goal.returns-in-Some
returns-in-Some c = rw c.in-Some.is (Earlier.kept c.if-left-eq0.false c.in-Some.before (cc) c.if-before-due.true)

pub returns-in_default : goal.returns-in_default
returns-in_default c = Earlier.taken c.if-left-eq0.false (rw c.in-Some.is c.if-before-due.false)

pub returns-in_default-2 : goal.returns-in_default-2
returns-in_default-2 c = Earlier.taken c.if-left-eq0.false (rw c.in_default.is tt)
