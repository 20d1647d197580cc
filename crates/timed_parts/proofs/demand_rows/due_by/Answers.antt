use Prim.Native.Nat.{ℕ, ◌+◌, ◌*◌, ◌≤◌}
use mathlib.Core.Path.{◌≡◌, refl, ap, ap₂, ◌∙◌}
use native.Mathlib.Nat.{mul-le-mul}
use native.Mathlib.Numerals.{add-one}
use native.Mathlib.Omega.{arith}
use borrow.Author.Rules.{rules}
use lib.ListN.{get_or}
use Rattle.std.proofs.Common.{Fits, w32}
use Rattle.laws.specs.Sums.{sum}
use Rattle.ranges.specs.Limits.{most_span, most_word}
use Rattle.timed_parts.specs.DemandRows.{row_entry}
use Rattle.timed_parts.specs.DualBoundLaws.{one_more_bounded}
use Rattle.timed_parts.proofs.demand_rows.due_by.Goals as goal

-- the ticks of a job, times jobs
its_low : {ticks jobs : ℕ} → Fits w32 ticks → jobs ≤ most_span → ticks * jobs ≤ most_word * most_span
its_low {ticks} fits few = let low : ticks ≤ most_word = omega (arith, fits) in mul-le-mul low few

pub loop-i-init : goal.loop-i-init
unfolding sum
loop-i-init c = (omega arith, refl, omega arith)

pub overflow_cast-due : goal.overflow_cast-due
overflow_cast-due c = omega (arith, c.type_inv.column c.loop-i.i)

pub overflow_cast-due-in-loop-i : goal.overflow_cast-due-in-loop-i
overflow_cast-due-in-loop-i c = omega (arith, c.requires.by_index c.loop-i.i c.loop-i-test.true)

pub overflow_mul-due-in-loop-i : goal.overflow_mul-due-in-loop-i
overflow_mul-due-in-loop-i c = omega (arith, its_low (c.type_inv.column c.loop-i.i) (c.requires.by_index c.loop-i.i c.loop-i-test.true))

pub overflow_add-due-in-loop-i-2 : goal.overflow_add-due-in-loop-i-2
overflow_add-due-in-loop-i-2 c =
    let inv = c.loop-i.invariant in
    omega (arith, its_low (c.type_inv.column c.loop-i.i) (c.requires.by_index c.loop-i.i c.loop-i-test.true), inv.2, inv.0, c.requires.le_most_items.0)

pub loop-i-preserved : goal.loop-i-preserved
unfolding sum
loop-i-preserved c =
    let inv = c.loop-i.invariant in
    (search rules, rw (add-one c.loop-i.i) (ap₂ ◌+◌ inv.1 refl), one_more_bounded _ _ _ _ inv.2 (its_low (c.type_inv.column c.loop-i.i) (c.requires.by_index c.loop-i.i c.loop-i-test.true)))

pub returns : goal.returns
returns c =
    let at = c.loop-i in
    let args = c.args in
    let all : at.i ≡ args.items = omega (arith, at.invariant.0, c.loop-i-test.false) in
    at.invariant.1 ∙ ap (sum (λ (j : ℕ). get_or args.column.now j 0 * row_entry args.rows.now args.row j)) all
