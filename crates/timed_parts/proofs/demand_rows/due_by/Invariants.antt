-- `due_by` adds one item's ticks after the other's.
use Prim.Native.Nat.{ℕ, ◌*◌, ◌≤◌}
use mathlib.Core.Path.{◌≡◌}
use lib.ListN.{get_or}
use Rattle.laws.specs.Sums.{sum}
use Rattle.ranges.specs.Limits.{most_span, most_word}
use Rattle.timed_parts.specs.DemandRows.{row_entry}
use Rattle.timed_parts.proofs.demand_rows.due_by.Given as goal

abbrev pub invariant-loop-i : goal.invariant-loop-i
invariant-loop-i l =
    (l.i ≤ l.items) × (l.due ≡ sum (λ (j : ℕ). get_or l.column j 0 * row_entry l.rows l.row j) l.i) × (l.due ≤ l.i * (most_word * most_span))
