use Rattle.std.proofs.Common.{◌≤◌, refl, arith, leb-false, leb-true}
use Rattle.lagrangian.specs.PricedLevelLaws.{priced_fits, skipped, still_cheapest, now_cheapest}
use Rattle.lagrangian.specs.TimedCores.{timing_at}
use Rattle.lagrangian.proofs.cores.TimedCore.cheaper_level.Goals as goal

pub returns-then-cost-best : goal.returns-then-cost-best
unfolding timing_at
returns-then-cost-best c =
    let pre = c.requires in
    let few = c.args.self.now.ready.timed_items.few_levels in
    now_cheapest pre.cheapest _ (omega (arith, pre.is_level, few)) refl (omega (arith, c.if-cost-best.true))

pub returns : goal.returns
unfolding timing_at
returns c =
    still_cheapest c.requires.cheapest (omega (arith, c.if-cost-best.false))

pub returns-then-not-is_within_window : goal.returns-then-not-is_within_window
unfolding timing_at
returns-then-not-is_within_window c =
    let long = leb-false _ _ (rw c.is_within_window.ensures at c.if-not-is_within_window.true) in
    skipped c.requires.cheapest long

pub overflow_mul-cost-2 : goal.overflow_mul-cost-2
unfolding timing_at
overflow_mul-cost-2 c =
    let pre = c.requires in
    let core = c.args.self.now in
    let within : (timing_at core.timings.now c.args.item).ticks c.args.level ≤ (timing_at core.timings.now c.args.item).window = leb-true _ _ (rw c.is_within_window.ensures at c.if-not-is_within_window.false) in
    record { fits = omega (arith, (priced_fits core.ready _ _ _ pre.is_item pre.is_level pre.low_price within).0) }

pub overflow_add-cost-2 : goal.overflow_add-cost-2
unfolding timing_at
overflow_add-cost-2 c =
    let pre = c.requires in
    let core = c.args.self.now in
    let within : (timing_at core.timings.now c.args.item).ticks c.args.level ≤ (timing_at core.timings.now c.args.item).window = leb-true _ _ (rw c.is_within_window.ensures at c.if-not-is_within_window.false) in
    record { fits = omega (arith, (priced_fits core.ready _ _ _ pre.is_item pre.is_level pre.low_price within).1) }
