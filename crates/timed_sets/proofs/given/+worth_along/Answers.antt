use Prim.Native.Nat.{◌-◌}
use mathlib.Core.List.{[]}
use mathlib.Core.Path.{refl}
use native.Mathlib.Omega.{arith}
use mathlib.Core.Logic.{inl}
use borrow.Author.Tests.{leb-true}
use Rattle.assignment.specs.Words.{words_none}
use Rattle.lagrangian.specs.TimedCores.{timing_at}
use Rattle.timed_sets.specs.FoundLaws.{passed_stands, one_passed, one_whole, run_stands, one_run}
use Rattle.timed_parts.specs.NodeLaws.{item_below, small_node, stands_at_level}
use Rattle.timed_sets.specs.SetTheorem.{none_is_small}
use Rattle.timed_sets.specs.WholeLaws.{small_at}
use Rattle.timed_sets.proofs.given.+worth_along.Goals as goal

pub with_whole-requires : goal.with_whole-requires
with_whole-requires t c =
    let pre = c.requires in let its = pre.by_index.2 in
    record { timed_items = pre.timed_ready.timed_items; ticks_len = its.places }

pub returns-then-i-timed : goal.returns-then-i-timed
returns-then-i-timed t c =
    let pre = c.requires in let its = pre.by_index.2 in
    let end = c.if-i-timed.true in record { by_index_2 = λ q T stands. one_whole (words_none _ 0 (omega arith)) (c.with_whole.ensures.by_index _ [] q T end stands); small_worth = c.with_whole.ensures.small_worth (small_at pre.timed_ready.timed_items.few_items end its) (none_is_small c.args.timed) }

pub overflow_sub-place : goal.overflow_sub-place
overflow_sub-place t c =
    let pre = c.requires in let its = pre.by_index.2 in
    omega (arith, item_below pre.timed_ready its c.if-i-timed.false)

pub overflow_sub-place-2 : goal.overflow_sub-place-2
overflow_sub-place-2 t c =
    let pre = c.requires in let its = pre.by_index.2 in
    omega (arith, item_below pre.timed_ready its c.if-i-timed.false)

pub sets_of-half-requires : goal.sets_of-half-requires
sets_of-half-requires t c =
    let pre = c.requires in let its = pre.by_index.2 in
    omega (arith, pre.timed_ready.timed_items.few_items)

pub passed_over-requires : goal.passed_over-requires
passed_over-requires t c =
    let pre = c.requires in let its = pre.by_index.2 in
    small_node pre.timed_ready its c.if-i-timed.false

pub worth_along-requires : goal.worth_along-requires
worth_along-requires t c =
    let pre = c.requires in let its = pre.by_index.2 in
    rw c.passed_over.ensures (
      omega (arith, c.decreases, item_below pre.timed_ready its c.if-i-timed.false),
      (pre.timed_ready, passed_stands c.if-i-timed.false c.sets_of-half.ensures c.if-node-half.true pre.by_index.0 pre.by_index.1 its),
    )

pub returns-then-node-half : goal.returns-then-node-half
returns-then-node-half t c =
    let pre = c.requires in let its = pre.by_index.2 in
    let found = c.worth_along.ensures in record { by_index_2 = λ q T stands. one_passed c.if-i-timed.false c.sets_of-half.ensures c.if-node-half.true (rw c.passed_over.ensures at found.by_index_2) q T stands; small_worth = found.small_worth }

pub choice_at-choice-requires : goal.choice_at-choice-requires
choice_at-choice-requires t c =
    let pre = c.requires in let its = pre.by_index.2 in
    omega (arith, pre.timed_ready.timed_items.few_items)

pub returns-then-choice-eq0 : goal.returns-then-choice-eq0
returns-then-choice-eq0 t c =
    record { by_index_2 = λ q T stands. record { one = inl (words_none _ 0 (omega arith)) }; small_worth = none_is_small c.args.timed }

pub overflow_sub-l : goal.overflow_sub-l
overflow_sub-l t c =
    omega (arith, c.if-choice-eq0.false)

pub returns-then-timed-l : goal.returns-then-timed-l
returns-then-timed-l t c =
    record { by_index_2 = λ q T stands. record { one = inl (words_none _ 0 (omega arith)) }; small_worth = none_is_small c.args.timed }

pub is_within_window-requires : goal.is_within_window-requires
is_within_window-requires t c =
    let pre = c.requires in let its = pre.by_index.2 in
    let below = item_below pre.timed_ready its c.if-i-timed.false in
    (omega (arith, below, pre.timed_ready.timed_items.few_items), omega (arith, below, c.if-timed-l.false, pre.timed_ready.timed_items.few_levels, pre.timed_ready.timed_items.timings_for_all))

pub returns-then-not-is_within_window : goal.returns-then-not-is_within_window
returns-then-not-is_within_window t c =
    record { by_index_2 = λ q T stands. record { one = inl (words_none _ 0 (omega arith)) }; small_worth = none_is_small c.args.timed }

pub overflow_mul-i : goal.overflow_mul-i
overflow_mul-i t c =
    let pre = c.requires in let its = pre.by_index.2 in
    omega (arith, item_below pre.timed_ready its c.if-i-timed.false, pre.timed_ready.timed_items.few_items, c.if-timed-l.false, pre.timed_ready.timed_items.few_levels, pre.timed_ready.timed_items.timings_for_all, pre.timed_ready.costs_for_all)

pub overflow_add-i : goal.overflow_add-i
overflow_add-i t c =
    let pre = c.requires in let its = pre.by_index.2 in
    omega (arith, item_below pre.timed_ready its c.if-i-timed.false, pre.timed_ready.timed_items.few_items, c.if-timed-l.false, pre.timed_ready.timed_items.few_levels, pre.timed_ready.timed_items.timings_for_all, pre.timed_ready.costs_for_all)

pub overflow_add-i-2 : goal.overflow_add-i-2
overflow_add-i-2 t c =
    let pre = c.requires in let its = pre.by_index.2 in
    omega (arith, item_below pre.timed_ready its c.if-i-timed.false, pre.timed_ready.timed_items.few_items, c.if-timed-l.false, pre.timed_ready.timed_items.few_levels, pre.timed_ready.timed_items.timings_for_all, pre.timed_ready.costs_for_all)

pub offset_bounds-timings-i : goal.offset_bounds-timings-i
offset_bounds-timings-i t c =
    let pre = c.requires in let its = pre.by_index.2 in
    omega (arith, item_below pre.timed_ready its c.if-i-timed.false, pre.timed_ready.timed_items.few_items, c.if-timed-l.false, pre.timed_ready.timed_items.few_levels, pre.timed_ready.timed_items.timings_for_all, pre.timed_ready.costs_for_all)

pub bounds-timings-i : goal.bounds-timings-i
bounds-timings-i t c =
    let pre = c.requires in let its = pre.by_index.2 in
    omega (arith, item_below pre.timed_ready its c.if-i-timed.false, pre.timed_ready.timed_items.few_items, c.if-timed-l.false, pre.timed_ready.timed_items.few_levels, pre.timed_ready.timed_items.timings_for_all, pre.timed_ready.costs_for_all)

pub overflow_mul-i-2 : goal.overflow_mul-i-2
overflow_mul-i-2 t c =
    let pre = c.requires in let its = pre.by_index.2 in
    omega (arith, item_below pre.timed_ready its c.if-i-timed.false, pre.timed_ready.timed_items.few_items, c.if-timed-l.false, pre.timed_ready.timed_items.few_levels, pre.timed_ready.timed_items.timings_for_all, pre.timed_ready.costs_for_all)

pub overflow_add-i-3 : goal.overflow_add-i-3
overflow_add-i-3 t c =
    let pre = c.requires in let its = pre.by_index.2 in
    omega (arith, item_below pre.timed_ready its c.if-i-timed.false, pre.timed_ready.timed_items.few_items, c.if-timed-l.false, pre.timed_ready.timed_items.few_levels, pre.timed_ready.timed_items.timings_for_all, pre.timed_ready.costs_for_all)

pub offset_bounds-cost-i : goal.offset_bounds-cost-i
offset_bounds-cost-i t c =
    let pre = c.requires in let its = pre.by_index.2 in
    omega (arith, item_below pre.timed_ready its c.if-i-timed.false, pre.timed_ready.timed_items.few_items, c.if-timed-l.false, pre.timed_ready.timed_items.few_levels, pre.timed_ready.timed_items.timings_for_all, pre.timed_ready.costs_for_all)

pub bounds-cost-i : goal.bounds-cost-i
bounds-cost-i t c =
    let pre = c.requires in let its = pre.by_index.2 in
    omega (arith, item_below pre.timed_ready its c.if-i-timed.false, pre.timed_ready.timed_items.few_items, c.if-timed-l.false, pre.timed_ready.timed_items.few_levels, pre.timed_ready.timed_items.timings_for_all, pre.timed_ready.costs_for_all)

pub run_at-child-requires : goal.run_at-child-requires
unfolding timing_at
run_at-child-requires t c =
    let pre = c.requires in let its = pre.by_index.2 in
    let at = stands_at_level pre.timed_ready its (c.choice_at-choice.result - 1) (omega (arith, c.if-timed-l.false)) in
    rw c.at_level.ensures (record {
      small_node = small_node pre.timed_ready at c.if-i-timed.false;
      half_le_rest = (omega (arith, c.if-node-half.false), pre.timed_ready.cheap _ _ (item_below pre.timed_ready its c.if-i-timed.false) (omega (arith, c.if-timed-l.false)) (leb-true _ _ (rw c.is_within_window.ensures at c.if-not-is_within_window.false)));
    })

pub worth_along-requires-2 : goal.worth_along-requires-2
unfolding timing_at
worth_along-requires-2 t c =
    let pre = c.requires in let its = pre.by_index.2 in
    let at = stands_at_level pre.timed_ready its (c.choice_at-choice.result - 1) (omega (arith, c.if-timed-l.false)) in
    rw (c.run_at-child.ensures, c.at_level.ensures) (
      omega (arith, c.decreases, item_below pre.timed_ready its c.if-i-timed.false),
      (pre.timed_ready, run_stands c.if-i-timed.false c.sets_of-half.ensures pre.timed_ready (omega (arith, c.if-node-half.false)) (omega (arith, c.if-timed-l.false)) refl refl (leb-true _ _ (rw c.is_within_window.ensures at c.if-not-is_within_window.false)) pre.by_index.0 pre.by_index.1 at),
    )

pub returns : goal.returns
unfolding timing_at
returns t c =
    let pre = c.requires in let its = pre.by_index.2 in
    let found = c.worth_along-2.ensures in record {
      by_index_2 = λ q T stands.
          one_run c.if-i-timed.false c.sets_of-half.ensures pre.timed_ready (omega (arith, c.if-node-half.false)) (omega (arith, c.if-timed-l.false)) refl refl (leb-true _ _ (rw c.is_within_window.ensures at c.if-not-is_within_window.false))
          (rw (c.run_at-child.ensures, c.at_level.ensures) at found.by_index_2) q T (stands_at_level pre.timed_ready stands _ (omega (arith, c.if-timed-l.false)));
      small_worth = found.small_worth;
    }
