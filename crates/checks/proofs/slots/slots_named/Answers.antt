use Prim.Native.Nat.{◌/◌}
use mathlib.Core.Path.{◌≡◌, refl, sym, ◌∙◌}
use native.Mathlib.Nat.{le_refl}
use native.Mathlib.Omega.{arith}
use lib.ListN.{get_or}
use borrow.Author.Count.{below_none, below_more}
use Rattle.laws.specs.FirstLaws.{first_unique}
use Rattle.laws.specs.SearchFacts.{first_of_none}
use Rattle.refusals.specs.declared.Refusal.TheVariants.{GivenTable}
use Rattle.checks.specs.HeldSlots.{InRow, is_stray, slots_named, core_at_most, row_goes_on, next_row_begins, slot_passed, core_of_slot}
use Rattle.refusals.specs.VerdictLaws.{found_is_refused, none_found_passes}
use Rattle.checks.proofs.slots.slots_named.Goals as goal
use Rattle.checks.proofs.slots.slots_named.Goals.{After-is_stray, Joined-left-eq0, then-left-eq0, else-left-eq0}

in_row : (c : goal.Joined-left-eq0) → InRow c.args.span c.if-left-eq0.k c.if-left-eq0.left c.loop-x.x
in_row c = let start = c in
    elim c.if-left-eq0.branch [
      | then-left-eq0 w ↦ rw (w.k-is, w.left-is) (next_row_begins start.requires.span_nonzero c.loop-x.invariant.0 w.if-left-eq0.true)
      | else-left-eq0 w ↦ rw (w.k-is, w.left-is) (row_goes_on c.loop-x.invariant.0 w.if-left-eq0.false)
    ]

tested : (c : goal.After-is_stray) → InRow c.args.span c.if-left-eq0.k c.if-left-eq0.left c.loop-x.x → let start = c in let x = c.loop-x.x in
    is_stray start.args.plan.now start.args.levels (x / start.args.span) (get_or start.args.table.now x 0) ≡ c.is_stray.result
tested c row = rw (← core_of_slot row) (sym c.is_stray.ensures)

pub loop-x-init : goal.loop-x-init
loop-x-init c = (record { row_end = omega arith; at_most = omega arith }, omega arith, below_none _)

pub overflow_add-k : goal.overflow_add-k
overflow_add-k c = let start = c in omega (arith, core_at_most start.requires.span_nonzero c.loop-x.invariant.0)

pub returns-then-is_stray : goal.returns-then-is_stray
unfolding slots_named
returns-then-is_stray c =
    found_is_refused GivenTable _ _ refl _ _
    (sym (first_unique _ (record {
      at_most = omega (arith, c.loop-x-test.true);
      none_below = c.loop-x.invariant.2;
      passes_below = λ _. tested (goal.at.returns-then-is_stray c).After-is_stray (in_row (goal.at.returns-then-is_stray c).Joined-left-eq0) ∙ c.if-is_stray.true;
    })))
    c.loop-x-test.true

pub overflow_sub-left : goal.overflow_sub-left
overflow_sub-left c = omega (arith, (in_row (goal.at.overflow_sub-left c).Joined-left-eq0).some)

pub loop-x-preserved : goal.loop-x-preserved
loop-x-preserved c = (slot_passed (in_row (goal.at.loop-x-preserved c).Joined-left-eq0), omega (arith, c.loop-x-test.true), below_more _ _ c.loop-x.invariant.2 (tested (goal.at.loop-x-preserved c).After-is_stray (in_row (goal.at.loop-x-preserved c).Joined-left-eq0) ∙ c.if-is_stray.false))

pub returns : goal.returns
unfolding slots_named
returns c =
    none_found_passes GivenTable _ _ refl _ _
    (sym (first_of_none _ _ (λ y l. c.loop-x.invariant.2 y (omega (arith, c.loop-x-test.false)))))
    (le_refl _)
