-- `ticks_by_number` has placed the ticks of the columns that it has passed.
use Prim.Native.Nat.{◌≤◌}
use lib.ListN.{length, get_or, replicate}
use Rattle.ranges.specs.Limits.{most_tasks}
use Rattle.dispatcher.specs.Places.{Placed}
use Rattle.dispatcher.proofs.columns.Columns.ticks_by_number.Given as goal

abbrev pub invariant-loop-number : goal.invariant-loop-number
invariant-loop-number l =
    (length l.yielded ≤ length l.self.numbers.now)
    × Placed l.self.numbers.now (λ k. get_or l.self.ticks.now k 0) (replicate most_tasks 0) l.placed (length l.yielded)
