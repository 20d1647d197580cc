use Prim.Native.Nat.{◌+◌, ◌*◌, ◌<◌}
use mathlib.Core.Path.{◌≡◌, ◌∙◌}
use native.Mathlib.Nat.{add-zero}
use native.Mathlib.Omega.{arith}
use Rattle.instance.specs.Held.{problem_in, held_levelcount, held_span}
use Rattle.instance.specs.Node.{level_count, task_at}
use Rattle.ranges.specs.Limits.{most_levels, most_tasks}
use Rattle.plan_rules.specs.HeldQuantities.{start_ticks_at_most}
use Rattle.offers.specs.HeldOptions.{held_span_at_most, energy_weight_at_most, idle_power_at_most, held_load, held_load_at_most, held_cost, level_power_at_most}
use Rattle.offers.specs.OfferedOptions.{level_offered, task_offered}
use Rattle.offers.specs.OptionsOf.{offer_of}
use Rattle.offers.proofs.options.fill_levels.Goals as goal
use Rattle.offers.proofs.options.fill_levels.Goals.{After-ticks_of-ticks, In-loop-l}

level_below : (c : In-loop-l) → c.loop-l.l < level_count (problem_in c.args.inst)
level_below c = omega (arith, held_levelcount _ c.requires.sound)

place_below : (c : In-loop-l) → c.args.i * most_levels + c.loop-l.l < most_tasks * most_levels
place_below c =
    let valid = c.requires.sound.valid in
    omega (arith, level_below c, valid.level_count_bound.at_most, valid.task_count_bound)

same_load : (c : After-ticks_of-ticks) →
    let start = c in
    let p = problem_in start.args.inst in
    c.jobs_in-jobs.result * c.ticks_of-ticks.result ≡ (offer_of p (task_at p start.args.i)).load c.loop-l.l
same_load c =
    let start = c in
    held_load _ start.requires.sound start.args.task _ c.jobs_in-jobs.ensures _ _ _ start.requires.task_value (omega (arith, c.loop-l-test.true, held_levelcount _ start.requires.sound))
    c.ticks_of-ticks.ensures

pub loop-l-init : goal.loop-l-init
loop-l-init c = (omega arith, rw add-zero c.requires.levels_offered)

pub offset_bounds-inst-l : goal.offset_bounds-inst-l
offset_bounds-inst-l c = omega (arith, place_below (goal.at.offset_bounds-inst-l c).In-loop-l)

pub bounds-inst-l : goal.bounds-inst-l
bounds-inst-l c = omega (arith, level_below (goal.at.bounds-inst-l c).In-loop-l, c.requires.sound.valid.level_count_bound.at_most)

pub ticks_of-ticks-requires : goal.ticks_of-ticks-requires
ticks_of-ticks-requires c =
    let start = c in
    (omega (arith, start_ticks_at_most _ start.requires.sound), rw start.requires.task_value (start.requires.sound.valid.task _ start.requires.i_bound).cycles.at_most)

pub overflow_mul-asked : goal.overflow_mul-asked
overflow_mul-asked c =
    let start = c in
    omega (
      arith,
      held_load_at_most _ start.requires.sound start.args.task _ c.jobs_in-jobs.ensures _ _ _ start.requires.task_value
          (level_below (goal.at.overflow_mul-asked c).In-loop-l) c.ticks_of-ticks.ensures start.requires.i_bound,
    )

pub overflow_mul-at : goal.overflow_mul-at
overflow_mul-at c = omega (arith, place_below (goal.at.overflow_mul-at c).In-loop-l)

pub overflow_add-at : goal.overflow_add-at
overflow_add-at c = omega (arith, place_below (goal.at.overflow_add-at c).In-loop-l)

pub offset_bounds-load-at : goal.offset_bounds-load-at
offset_bounds-load-at c = omega (arith, place_below (goal.at.offset_bounds-load-at c).In-loop-l)

pub bounds-load-at : goal.bounds-load-at
bounds-load-at c = place_below (goal.at.bounds-load-at c).In-loop-l

pub cost_of-requires : goal.cost_of-requires
cost_of-requires c =
    let sound = c.requires.sound in
    (energy_weight_at_most _ sound, held_span_at_most _ sound, level_power_at_most _ sound _ (level_below (goal.at.cost_of-requires c).In-loop-l), idle_power_at_most _ sound)

pub offset_bounds-cost-at : goal.offset_bounds-cost-at
offset_bounds-cost-at c = omega (arith, place_below (goal.at.offset_bounds-cost-at c).In-loop-l)

pub bounds-cost-at : goal.bounds-cost-at
bounds-cost-at c = place_below (goal.at.bounds-cost-at c).In-loop-l

pub loop-l-smaller : goal.loop-l-smaller
loop-l-smaller c = omega arith

pub loop-l-preserved : goal.loop-l-preserved
loop-l-preserved c =
    let turn = c in
    let start = c in
    let valid = start.requires.sound.valid in (
      omega arith,
      level_offered _ valid.level_count_bound.at_most _ _ _ _ _ _ (omega (arith, valid.task_count_bound)) (level_below (goal.at.loop-l-preserved c).In-loop-l)
          turn.loop-l.invariant.1 (same_load (goal.at.loop-l-preserved c).After-ticks_of-ticks)
          (λ fits. c.cost_of.ensures (rw (held_span _ start.requires.sound) fits) ∙ held_cost _ start.requires.sound _ (level_below (goal.at.loop-l-preserved c).In-loop-l) _ _ (same_load (goal.at.loop-l-preserved c).After-ticks_of-ticks)),
    )

pub returns : goal.returns
returns c =
    let start = c in
    let end : c.loop-l.l ≡ level_count (problem_in start.args.inst) = omega (arith, held_levelcount _ start.requires.sound) in
    task_offered _ start.requires.sound.valid.level_count_bound.at_most _ _ _ (rw end at c.loop-l.invariant.1)
