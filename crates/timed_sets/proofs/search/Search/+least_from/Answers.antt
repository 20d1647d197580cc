use mathlib.Core.Path.{refl, sym, ◌∙◌}
use Rattle.std.proofs.lemmas.List.{length-map}
use Rattle.timed_sets.specs.PartnerColumns.{number_of}
use native.Mathlib.Omega.{arith}
use Rattle.lagrangian.specs.TimedCores.{timing_at}
use Rattle.timed_sets.specs.FoundLaws.{found_nothing, passed_stands, found_passed, found_none, found_later, run_stands, found_both}
use Rattle.timed_parts.specs.NodeLaws.{item_below, small_node, stands_next}
use Rattle.timed_sets.specs.PartnerLaws.{partner_within}
use Rattle.timed_sets.specs.WholeLaws.{small_at}
use Rattle.timed_sets.proofs.search.Search.+least_from.Goals as goal

pub is_promising-requires : goal.is_promising-requires
is_promising-requires t c =
    let pre = c.requires in
    let its = pre.stands in
    record { ready = pre.ready; stands = its; cost_le_no_cost = pre.small_worth.at_most_none }

pub returns-then-not-is_promising : goal.returns-then-not-is_promising
returns-then-not-is_promising t c =
    let pre = c.requires in let its = pre.stands in record { found = λ q T stands. found_nothing (c.is_promising.ensures q T stands c.if-not-is_promising.true); small_worth_2 = pre.small_worth }

pub is_refit_due-requires : goal.is_refit_due-requires
is_refit_due-requires t c =
    let pre = c.requires in (pre.ready.timed_ready.timed_items.few_items, omega (arith, pre.stands.2.behind))

pub refitted-relaxed-requires : goal.refitted-relaxed-requires
refitted-relaxed-requires t c =
    let pre = c.requires in record { timed_ready = pre.ready.timed_ready; by_index = pre.stands }

pub least_from-requires : goal.least_from-requires
least_from-requires t c =
    let pre = c.requires in
    let fixed-before = c.is_refit_due.ensures c.if-is_refit_due.true in (
      omega (arith, c.decreases, fixed-before, c.refitted-relaxed.ensures.fixed_value, pre.stands.2.behind),
      (record { timed_ready = pre.ready.timed_ready; bounds_hold = record { table = pre.ready.bounds_hold.table; relaxation = c.refitted-relaxed.ensures.relaxes }; demand_rows = pre.ready.demand_rows; partners = pre.ready.partners }, (pre.stands, pre.small_worth)),
    )

pub returns-then-is_refit_due : goal.returns-then-is_refit_due
returns-then-is_refit_due t c = c.least_from.ensures

pub with_whole-requires : goal.with_whole-requires
with_whole-requires t c =
    let pre = c.requires in let its = pre.stands in record { timed_items = pre.ready.timed_ready.timed_items; ticks_len = its.2.places }

pub returns-then-i-timed : goal.returns-then-i-timed
returns-then-i-timed t c =
    let pre = c.requires in let its = pre.stands in
    let whole = c.if-i-timed.true in record { found = λ q T stands. c.with_whole.ensures.by_index _ _ q T whole stands; small_worth_2 = c.with_whole.ensures.small_worth (small_at pre.ready.timed_ready.timed_items.few_items whole its.2) pre.small_worth }

pub overflow_sub-timed : goal.overflow_sub-timed
overflow_sub-timed t c =
    let pre = c.requires in let its = pre.stands in omega (arith, item_below pre.ready.timed_ready its.2 c.if-i-timed.false)

pub overflow_sub-timed-2 : goal.overflow_sub-timed-2
overflow_sub-timed-2 t c =
    let pre = c.requires in let its = pre.stands in omega (arith, item_below pre.ready.timed_ready its.2 c.if-i-timed.false)

pub sets_of-half-requires : goal.sets_of-half-requires
sets_of-half-requires t c =
    let pre = c.requires in let its = pre.stands in omega (arith, pre.ready.timed_ready.timed_items.few_items)

pub passed_over-requires : goal.passed_over-requires
passed_over-requires t c =
    let pre = c.requires in let its = pre.stands in small_node pre.ready.timed_ready its.2 c.if-i-timed.false

pub least_from-requires-then-node-half : goal.least_from-requires-then-node-half
least_from-requires-then-node-half t c =
    let pre = c.requires in let its = pre.stands in
    let more = c.if-i-timed.false in
    rw c.passed_over.ensures (
      omega (arith, c.decreases, item_below pre.ready.timed_ready its.2 more, pre.ready.timed_ready.timed_items.few_levels),
      (pre.ready, (passed_stands more c.sets_of-half.ensures c.if-node-half.true its.0 its.1 its.2, pre.small_worth)),
    )

pub returns-then-node-half : goal.returns-then-node-half
returns-then-node-half t c =
    let pre = c.requires in let its = pre.stands in
    let more = c.if-i-timed.false in
    let found = c.least_from-then-node-half.ensures in record { found = λ q T stands. found_passed more c.sets_of-half.ensures c.if-node-half.true (rw c.passed_over.ensures at found.found) q T stands; small_worth_2 = found.small_worth_2 }

pub returns-then-l-timed : goal.returns-then-l-timed
returns-then-l-timed t c =
    let pre = c.requires in let its = pre.stands in record { found = λ q T stands. found_none c.if-i-timed.false c.sets_of-half.ensures (omega (arith, c.if-node-half.false)) c.if-l-timed.true q T stands; small_worth_2 = pre.small_worth }

pub may_run-requires : goal.may_run-requires
may_run-requires t c =
    let pre = c.requires in let its = pre.stands in
    let below = item_below pre.ready.timed_ready its.2 c.if-i-timed.false in
    let named = pre.ready.partners in record { small_node = small_node pre.ready.timed_ready its.2 c.if-i-timed.false; level_in_bounds = omega (arith, below, its.2.level, c.if-l-timed.false, pre.ready.timed_ready.timed_items.few_levels, pre.ready.timed_ready.timed_items.timings_for_all); partners_len = (sym (length-map _ number_of) ∙ named.places, partner_within named _ below) }

pub next_level-requires : goal.next_level-requires
next_level-requires t c =
    let pre = c.requires in let its = pre.stands in small_node pre.ready.timed_ready its.2 c.if-i-timed.false

pub least_from-requires-then-not-may_run : goal.least_from-requires-then-not-may_run
least_from-requires-then-not-may_run t c =
    let pre = c.requires in let its = pre.stands in
    let level = c.if-l-timed.false in
    rw c.next_level.ensures (
      omega (arith, c.decreases, its.2.level, level),
      (pre.ready, ((its.0, its.1, stands_next pre.ready.timed_ready its.2 level), pre.small_worth)),
    )

pub returns-then-not-may_run : goal.returns-then-not-may_run
unfolding timing_at
returns-then-not-may_run t c =
    let pre = c.requires in let its = pre.stands in
    let found = c.least_from-then-not-may_run.ensures in
    let not-run = c.may_run.ensures.not_run (c.if-not-may_run.true) in record {
      found = λ q T stands.
          found_later c.if-i-timed.false c.sets_of-half.ensures pre.ready.timed_ready pre.ready.partners (omega (arith, c.if-node-half.false)) c.if-l-timed.false not-run
          (rw c.next_level.ensures at found.found) q T stands;
      small_worth_2 = found.small_worth_2;
    }

pub overflow_mul-i : goal.overflow_mul-i
overflow_mul-i t c =
    let pre = c.requires in let its = pre.stands in
    omega (arith, item_below pre.ready.timed_ready its.2 c.if-i-timed.false, pre.ready.timed_ready.timed_items.few_items, its.2.level, c.if-l-timed.false, pre.ready.timed_ready.timed_items.few_levels, pre.ready.timed_ready.timed_items.timings_for_all, pre.ready.timed_ready.costs_for_all)

pub overflow_add-i : goal.overflow_add-i
overflow_add-i t c =
    let pre = c.requires in let its = pre.stands in
    omega (arith, item_below pre.ready.timed_ready its.2 c.if-i-timed.false, pre.ready.timed_ready.timed_items.few_items, its.2.level, c.if-l-timed.false, pre.ready.timed_ready.timed_items.few_levels, pre.ready.timed_ready.timed_items.timings_for_all, pre.ready.timed_ready.costs_for_all)

pub overflow_add-i-2 : goal.overflow_add-i-2
overflow_add-i-2 t c =
    let pre = c.requires in let its = pre.stands in
    omega (arith, item_below pre.ready.timed_ready its.2 c.if-i-timed.false, pre.ready.timed_ready.timed_items.few_items, its.2.level, c.if-l-timed.false, pre.ready.timed_ready.timed_items.few_levels, pre.ready.timed_ready.timed_items.timings_for_all, pre.ready.timed_ready.costs_for_all)

pub offset_bounds-timings-i : goal.offset_bounds-timings-i
offset_bounds-timings-i t c =
    let pre = c.requires in let its = pre.stands in
    omega (arith, item_below pre.ready.timed_ready its.2 c.if-i-timed.false, pre.ready.timed_ready.timed_items.few_items, its.2.level, c.if-l-timed.false, pre.ready.timed_ready.timed_items.few_levels, pre.ready.timed_ready.timed_items.timings_for_all, pre.ready.timed_ready.costs_for_all)

pub bounds-timings-i : goal.bounds-timings-i
bounds-timings-i t c =
    let pre = c.requires in let its = pre.stands in
    omega (arith, item_below pre.ready.timed_ready its.2 c.if-i-timed.false, pre.ready.timed_ready.timed_items.few_items, its.2.level, c.if-l-timed.false, pre.ready.timed_ready.timed_items.few_levels, pre.ready.timed_ready.timed_items.timings_for_all, pre.ready.timed_ready.costs_for_all)

pub overflow_mul-i-2 : goal.overflow_mul-i-2
overflow_mul-i-2 t c =
    let pre = c.requires in let its = pre.stands in
    omega (arith, item_below pre.ready.timed_ready its.2 c.if-i-timed.false, pre.ready.timed_ready.timed_items.few_items, its.2.level, c.if-l-timed.false, pre.ready.timed_ready.timed_items.few_levels, pre.ready.timed_ready.timed_items.timings_for_all, pre.ready.timed_ready.costs_for_all)

pub overflow_add-i-3 : goal.overflow_add-i-3
overflow_add-i-3 t c =
    let pre = c.requires in let its = pre.stands in
    omega (arith, item_below pre.ready.timed_ready its.2 c.if-i-timed.false, pre.ready.timed_ready.timed_items.few_items, its.2.level, c.if-l-timed.false, pre.ready.timed_ready.timed_items.few_levels, pre.ready.timed_ready.timed_items.timings_for_all, pre.ready.timed_ready.costs_for_all)

pub offset_bounds-cost-i : goal.offset_bounds-cost-i
offset_bounds-cost-i t c =
    let pre = c.requires in let its = pre.stands in
    omega (arith, item_below pre.ready.timed_ready its.2 c.if-i-timed.false, pre.ready.timed_ready.timed_items.few_items, its.2.level, c.if-l-timed.false, pre.ready.timed_ready.timed_items.few_levels, pre.ready.timed_ready.timed_items.timings_for_all, pre.ready.timed_ready.costs_for_all)

pub bounds-cost-i : goal.bounds-cost-i
bounds-cost-i t c =
    let pre = c.requires in let its = pre.stands in
    omega (arith, item_below pre.ready.timed_ready its.2 c.if-i-timed.false, pre.ready.timed_ready.timed_items.few_items, its.2.level, c.if-l-timed.false, pre.ready.timed_ready.timed_items.few_levels, pre.ready.timed_ready.timed_items.timings_for_all, pre.ready.timed_ready.costs_for_all)

pub run_at-child-requires : goal.run_at-child-requires
unfolding timing_at
run_at-child-requires t c =
    let pre = c.requires in let its = pre.stands in
    let below = item_below pre.ready.timed_ready its.2 c.if-i-timed.false in
    let level = c.if-l-timed.false in
    let within = c.may_run.ensures.level_bound (c.if-not-may_run.false) in
    record { small_node = small_node pre.ready.timed_ready its.2 c.if-i-timed.false; half_le_rest = (omega (arith, c.if-node-half.false), pre.ready.timed_ready.cheap _ _ below (omega (arith, its.2.level)) within) }

pub least_from-here-requires : goal.least_from-here-requires
unfolding timing_at
least_from-here-requires t c =
    let pre = c.requires in let its = pre.stands in
    let more = c.if-i-timed.false in
    let within = c.may_run.ensures.level_bound (c.if-not-may_run.false) in
    rw c.run_at-child.ensures (
      omega (arith, c.decreases, item_below pre.ready.timed_ready its.2 more, pre.ready.timed_ready.timed_items.few_levels),
      (pre.ready, (run_stands more c.sets_of-half.ensures pre.ready.timed_ready (omega (arith, c.if-node-half.false)) c.if-l-timed.false refl refl within its.0 its.1 its.2, pre.small_worth)),
    )

pub next_level-requires-2 : goal.next_level-requires-2
next_level-requires-2 t c =
    let pre = c.requires in let its = pre.stands in small_node pre.ready.timed_ready its.2 c.if-i-timed.false

pub least_from-requires-2 : goal.least_from-requires-2
least_from-requires-2 t c =
    let pre = c.requires in let its = pre.stands in
    let level = c.if-l-timed.false in
    rw c.next_level-2.ensures (
      omega (arith, c.decreases, its.2.level, level),
      (pre.ready, ((its.0, its.1, stands_next pre.ready.timed_ready its.2 level), c.least_from-here.ensures.small_worth_2)),
    )

pub returns : goal.returns
unfolding timing_at
returns t c =
    let pre = c.requires in let its = pre.stands in
    let this = c.least_from-here.ensures in
    let others = c.least_from-2.ensures in
    let within = c.may_run.ensures.level_bound (c.if-not-may_run.false) in record {
      found = λ q T stands.
          found_both c.if-i-timed.false c.sets_of-half.ensures pre.ready.timed_ready (omega (arith, c.if-node-half.false)) c.if-l-timed.false refl refl within
          (rw c.run_at-child.ensures at this.found) (rw c.next_level-2.ensures at others.found) q T stands;
      small_worth_2 = others.small_worth_2;
    }
