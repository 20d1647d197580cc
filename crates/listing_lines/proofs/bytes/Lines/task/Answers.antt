use Prim.Native.Nat.{◌-◌}
use lib.ListN.{get_or}
use native.Mathlib.Omega.{arith}
use native.Mathlib.Nat.{mod-lt}
use Rattle.plan_rules.specs.HeldQuantities.{level_count_above_zero, level_count_at_most, start_ticks_at_most, cycles_at_most}
use Rattle.listing_lines.specs.HeldLines.{refused_task_line, kept_task_line}
use Rattle.listing_lines.proofs.bytes.Lines.task.Goals as goal

pub refused-requires : goal.refused-requires
refused-requires c = rw (refused_task_line _ c.requires.sound _ _ c.if-choice-eq0.true) at c.requires.room

pub overflow_cast-placed : goal.overflow_cast-placed
overflow_cast-placed c = omega (arith, c.type_inv.plan c.args.i)

pub nonzero_div-core : goal.nonzero_div-core
nonzero_div-core c = level_count_above_zero _ c.requires.sound

pub nonzero_rem-level : goal.nonzero_rem-level
nonzero_rem-level c = level_count_above_zero _ c.requires.sound

pub offset_bounds-inst-level : goal.offset_bounds-inst-level
offset_bounds-inst-level c =
    omega (arith, mod-lt (get_or c.args.plan.now c.args.i 0 - 1) (level_count_above_zero _ c.requires.sound), level_count_at_most _ c.requires.sound)

pub bounds-inst-level : goal.bounds-inst-level
bounds-inst-level c =
    omega (arith, mod-lt (get_or c.args.plan.now c.args.i 0 - 1) (level_count_above_zero _ c.requires.sound), level_count_at_most _ c.requires.sound)

pub ticks_of-ticks-requires : goal.ticks_of-ticks-requires
ticks_of-ticks-requires c =
    (start_ticks_at_most _ c.requires.sound, cycles_at_most _ c.requires.sound _ c.requires.i_bound)

pub overflow_add-level : goal.overflow_add-level
overflow_add-level c =
    omega (arith, mod-lt (get_or c.args.plan.now c.args.i 0 - 1) (level_count_above_zero _ c.requires.sound), level_count_at_most _ c.requires.sound)

pub kept-requires : goal.kept-requires
kept-requires c =
    rw (kept_task_line _ c.requires.sound _ _ _ c.requires.i_bound c.if-choice-eq0.false c.ticks_of-ticks.ensures) at c.requires.room

pub returns : goal.returns
returns c =
    rw (kept_task_line _ c.requires.sound _ _ _ c.requires.i_bound c.if-choice-eq0.false c.ticks_of-ticks.ensures) c.kept.ensures

pub returns-then-choice-eq0 : goal.returns-then-choice-eq0
returns-then-choice-eq0 c = rw (refused_task_line _ c.requires.sound _ _ c.if-choice-eq0.true) c.refused.ensures
