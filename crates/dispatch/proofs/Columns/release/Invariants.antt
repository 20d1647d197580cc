-- `release` has released the jobs of the tasks that it has passed.
use mathlib.Core.Path.{◌≡◌}
use lib.ListN.{length}
use Rattle.dispatch.specs.ReleaseLaws.{released_so_far}
use Rattle.dispatch.proofs.Columns.release.Given as goal

abbrev pub invariant-loop-i : goal.invariant-loop-i
invariant-loop-i l =
    (length l.left ≡ length l.initial.left) × (l.left ≡ released_so_far l.self.periods.now l.self.ticks.now l.tick l.initial.left l.i)
