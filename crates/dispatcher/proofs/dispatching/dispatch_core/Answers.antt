use Prim.Native.Nat.{◌≤◌}
use native.Mathlib.Omega.{arith}
use borrow.Author.Tests.{le-leb, lt-leb}
use Rattle.dispatcher.specs.Columns.{tick_outcome}
use Rattle.dispatcher.specs.Preparing.{core_outcome}
use Rattle.dispatcher.proofs.dispatching.dispatch_core.Goals as goal
use Rattle.dispatcher.proofs.dispatching.dispatch_core.Goals.{Else-n}

pub returns-then-n : goal.returns-then-n
unfolding core_outcome
returns-then-n c = rw (lt-leb _ _ c.if-n.true) c.refused.ensures

within : (c : goal.Else-n) → c.args.core.count ≤ 12
within c = omega (arith, c.if-n.false)

pub returns : goal.returns
unfolding core_outcome tick_outcome
returns c = rw (le-leb _ _ (within (goal.at.returns c).Else-n)) c.dispatch_prepared.ensures
