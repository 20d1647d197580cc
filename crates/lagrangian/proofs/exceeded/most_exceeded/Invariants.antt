use Rattle.std.proofs.Common.{◌≤◌, IfSome}
use Rattle.lagrangian.proofs.exceeded.most_exceeded.Given as goal

abbrev pub invariant-loop-tick : goal.invariant-loop-tick
invariant-loop-tick l = IfSome l.exceeded (λ tick. tick ≤ l.span)
