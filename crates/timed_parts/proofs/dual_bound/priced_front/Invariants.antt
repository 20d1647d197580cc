use Prim.Native.Nat.{ℕ, ◌*◌, ◌≤◌}
use mathlib.Core.Path.{◌≡◌}
use lib.ListN.{get_or}
use Rattle.laws.specs.Sums.{sum as sum_of}
use Rattle.ranges.specs.Limits.{most_period}
use Rattle.lagrangian.specs.Lagrangians.{most_price}
use Rattle.timed_parts.proofs.dual_bound.priced_front.Given as goal

abbrev pub invariant-loop-i : goal.invariant-loop-i
invariant-loop-i l =
    (l.i ≤ l.items) × (l.sum ≡ sum_of (λ (j : ℕ). get_or l.prices j 0 * get_or l.ticks j 0) l.i) × (l.sum ≤ l.i * (most_price * most_period))
