use mathlib.Core.Path.{refl, ◌∙◌}
use native.Mathlib.Omega.{arith}
use Rattle.plan_rules.specs.HeldQuantities.{start_ticks_at_most}
use Rattle.offers.specs.TimedOptions.{word_0, word_1, word_of_level}
use Rattle.offers.proofs.timings.timing_word.Goals as goal

pub returns-then-w-eq0 : goal.returns-then-w-eq0
returns-then-w-eq0 c =
    word_0 _ _ c.if-w-eq0.true

pub returns-then-w-eq1 : goal.returns-then-w-eq1
returns-then-w-eq1 c =
    c.window_of.ensures ∙ word_1 _ _ c.if-w-eq1.true

pub overflow_sub-level : goal.overflow_sub-level
overflow_sub-level c =
    omega (arith, c.if-w-eq0.false, c.if-w-eq1.false)

pub offset_bounds-inst-w : goal.offset_bounds-inst-w
offset_bounds-inst-w c =
    let sound = c.requires.sound in omega (arith, c.requires.w_bound, sound.valid.level_count_bound.at_most)

pub bounds-inst-w : goal.bounds-inst-w
bounds-inst-w c =
    let sound = c.requires.sound in omega (arith, c.requires.w_bound, sound.valid.level_count_bound.at_most)

pub ticks_of-requires : goal.ticks_of-requires
ticks_of-requires c =
    let start = c in
    (start_ticks_at_most _ start.requires.sound, start.requires.cycles_le_most_cycles)

pub returns : goal.returns
returns c =
    let start = c in
    let sound = start.requires.sound in
    c.ticks_of.ensures ∙ word_of_level _ sound _ _ (omega (arith, c.if-w-eq0.false, c.if-w-eq1.false)) start.requires.w_bound refl
