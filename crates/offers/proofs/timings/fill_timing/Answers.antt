use Prim.Native.Nat.{◌+◌, ◌<◌}
use mathlib.Core.Path.{◌≡◌}
use native.Mathlib.Omega.{arith}
use native.Mathlib.Nat.{add-zero}
use Rattle.instance.specs.Held.{problem_in, held_levelcount}
use Rattle.instance.specs.Node.{level_count}
use Rattle.offers.specs.TimedOptions.{word_offered, timing_offered}
use Rattle.offers.proofs.timings.fill_timing.Goals as goal

pub overflow_add-words : goal.overflow_add-words
overflow_add-words c =
    let sound = c.requires.sound in omega (arith, held_levelcount _ sound, sound.valid.level_count_bound.at_most)

pub loop-w-init : goal.loop-w-init
loop-w-init c =
    (omega arith, rw add-zero c.requires.timings_offered)

pub timing_word-requires : goal.timing_word-requires
timing_word-requires c =
    let start = c in record { sound = start.requires.sound; cycles_le_most_cycles = rw start.requires.task_value (start.requires.sound.valid.task _ start.requires.i_bound).cycles.at_most; w_bound = omega (arith, c.loop-w-test.true, held_levelcount _ start.requires.sound) }

pub overflow_mul-timings : goal.overflow_mul-timings
overflow_mul-timings c =
    let start = c in let sound = start.requires.sound in omega (arith, c.loop-w-test.true, held_levelcount _ sound, sound.valid.level_count_bound.at_most, start.requires.i_bound, sound.valid.task_count_bound)

pub overflow_add-timings : goal.overflow_add-timings
overflow_add-timings c =
    let start = c in let sound = start.requires.sound in omega (arith, c.loop-w-test.true, held_levelcount _ sound, sound.valid.level_count_bound.at_most, start.requires.i_bound, sound.valid.task_count_bound)

pub offset_bounds-timings-i : goal.offset_bounds-timings-i
offset_bounds-timings-i c =
    let start = c in let sound = start.requires.sound in omega (arith, c.loop-w-test.true, held_levelcount _ sound, sound.valid.level_count_bound.at_most, start.requires.i_bound, sound.valid.task_count_bound)

pub bounds-timings-i : goal.bounds-timings-i
bounds-timings-i c =
    let start = c in let sound = start.requires.sound in omega (arith, c.loop-w-test.true, held_levelcount _ sound, sound.valid.level_count_bound.at_most, start.requires.i_bound, sound.valid.task_count_bound)

pub loop-w-smaller : goal.loop-w-smaller
loop-w-smaller c =
    omega (arith, c.loop-w-test.true)

pub loop-w-preserved : goal.loop-w-preserved
loop-w-preserved c =
    let start = c in
    let valid = start.requires.sound.valid in
    let below : c.loop-w.w < level_count (problem_in start.args.inst) + 2 = omega (arith, c.loop-w-test.true, held_levelcount _ start.requires.sound) in (
      omega (arith, c.loop-w-test.true),
      word_offered _ valid.level_count_bound.at_most _ _ _ _ (omega (arith, start.requires.i_bound, valid.task_count_bound)) below c.loop-w.invariant.1
          (rw (← start.requires.task_value) c.timing_word.ensures),
    )

pub returns : goal.returns
returns c =
    let start = c in
    let end : c.loop-w.w ≡ level_count (problem_in start.args.inst) + 2 = omega (arith, held_levelcount _ start.requires.sound, c.loop-w.invariant.0, c.loop-w-test.false) in
    timing_offered _ start.requires.sound.valid.level_count_bound.at_most _ _ (rw end at c.loop-w.invariant.1)
