use Rattle.std.proofs.Common.{suc, ◌+◌, ◌≡◌, refl, ◌∙◌, arith}
use Rattle.set_tables.specs.OwnLevelLaws.{own_at_most, own_below}
use Rattle.set_tables.specs.OwnPatterns.{own_level}
use Rattle.set_tables.proofs.own.own_level.Goals as goal

pub loop-level-init : goal.loop-level-init
unfolding own_level
loop-level-init c = refl

pub better_level-own-requires : goal.better_level-own-requires
better_level-own-requires c =
    let at = c.loop-level in
    let ready = c.args.core.now.ready in
    let levels = ready.timed_items.few_levels in
    record {
      is_item = omega (arith, ready.timed_items.few_items);
      is_level = omega (arith, levels, c.loop-level-test.true);
      is_best = omega (arith, levels, c.loop-level-test.true, at.invariant, own_at_most c.args.core.now.timings.now c.args.core.now.cost.now c.args.item at.level);
      timings_for_it = omega (arith, ready.timed_items.timings_for_all);
      costs_for_it = omega (arith, ready.costs_for_all);
    }

pub loop-level-preserved : goal.loop-level-preserved
unfolding own_level
loop-level-preserved c =
    let at = c.loop-level in
    let next : at.level + 1 ≡ suc at.level = omega arith in
    rw next (c.better_level-own.ensures ∙ rw at.invariant refl)

pub returns : goal.returns
returns c =
    let at = c.loop-level in
    let all : at.level ≡ c.args.core.now.timed.levels = omega (arith, c.loop-level-test.false, at.auto.level-end) in
    let own = rw all at at.invariant in
    record { value = own; upper_bound = rw own (own_below c.args.core.now.timings.now c.args.core.now.cost.now c.args.item c.args.core.now.timed.levels c.requires.0) }
