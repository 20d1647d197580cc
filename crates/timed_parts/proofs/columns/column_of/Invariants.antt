use Rattle.std.proofs.Common.{◌≡◌, ◌<◌, get_or, length, ℕ}
use Rattle.assignment.specs.Limits.{most_items}
use Rattle.timed_parts.proofs.columns.column_of.Given as goal

abbrev pub invariant-loop-i : goal.invariant-loop-i
invariant-loop-i g l = record {
  places : length l.column ≡ most_items;
  entries : (k : ℕ) → k < l.i → goal.F-post g l.entry k (get_or l.column k l.fn.other);
}
