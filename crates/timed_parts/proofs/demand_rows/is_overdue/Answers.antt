use native.Mathlib.Omega.{arith}
use Prim.Native.Nat.{ℕ, ◌*◌, ◌<◌}
use borrow.Author.Rules.{rules}
use lib.ListN.{get_or}
use Rattle.std.proofs.lemmas.Iterator.{serves_from_Range, cases_from_any, YieldsList-from_range}
use Rattle.std.proofs.Common.{refl}
use Rattle.std.specs.List.{range_with_len}
use Rattle.std.proofs.lemmas.List.FromFn.{get_or-range_with_len}
use Rattle.laws.specs.Sums.{sum}
use Rattle.timed_parts.specs.DemandRows.{row_tick, row_entry}
use Rattle.timed_parts.specs.OverdueLaws.{few_due, overdue_nothing_before}
use Rattle.timed_parts.proofs.demand_rows.is_overdue.Goals as goal

pub any-requires-clause-callable : goal.any-requires-clause-callable
any-requires-clause-callable c =
    let pre = c.requires in
    serves_from_Range (λ x q r. search rules)
    (λ row from below _ _ _ _ _ _ _ _ _ _.
    ((pre.4.few_items, below, c.lowest_column-column.ensures.places, pre.5.places), few_due pre.4 pre.5 row below))

pub returns : goal.returns
returns c = λ timings cost q T best ready rows stands yes.
    let column = c.lowest_column-column.result in
    let exceeded : ℕ → Type 0 = λ (row : ℕ). row_tick c.args.rows.now row < sum (λ (i : ℕ). get_or column i 0 * row_entry c.args.rows.now row i) c.args.timed.items in
    let found = rw yes at (cases_from_any _ _ _ exceeded (λ _. Unit {0}) c.any.ensures.ran (YieldsList-from_range 0 8 8 refl refl) (λ row q is. search rules) (λ row q is. (search rules, tt))) in
    let is_row : get_or (range_with_len 0 8) found.0 0 < 8 = rw (get_or-range_with_len 0 8 found.0 0 (omega arith)) (omega arith) in
    overdue_nothing_before ready rows stands c.lowest_column-column.ensures _ is_row (found.2 0)
