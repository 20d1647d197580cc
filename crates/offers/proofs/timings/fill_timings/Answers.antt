use Prim.Native.Nat.{◌<◌}
use mathlib.Core.Path.{◌≡◌}
use native.Mathlib.Omega.{arith}
use Rattle.instance.specs.Held.{problem_in, held_task, held_taskcount}
use Rattle.instance.specs.Node.{task_count}
use Rattle.offers.specs.TimedOptions.{next_place}
use Rattle.offers.proofs.timings.fill_timings.Goals as goal

pub loop-i-init : goal.loop-i-init
loop-i-init c =
    (omega arith, c.requires.timings_offered)

pub offset_bounds-inst-i : goal.offset_bounds-inst-i
offset_bounds-inst-i c =
    let sound = c.requires.sound in omega (arith, held_taskcount _ sound, c.loop-i-test.true, sound.valid.task_count_bound)

pub bounds-inst-i : goal.bounds-inst-i
bounds-inst-i c =
    let sound = c.requires.sound in omega (arith, held_taskcount _ sound, c.loop-i-test.true, sound.valid.task_count_bound)

pub loop-i-smaller : goal.loop-i-smaller
loop-i-smaller c =
    omega (arith, c.loop-i-test.true)

pub loop-i-preserved : goal.loop-i-preserved
loop-i-preserved c =
    (omega (arith, c.loop-i-test.true), rw (next_place c.loop-i.i) c.fill_timing.ensures)

pub fill_timing-requires : goal.fill_timing-requires
fill_timing-requires c =
    let sound = c.requires.sound in
    let below : c.loop-i.i < task_count (problem_in c.args.inst) = omega (arith, held_taskcount _ sound, c.loop-i-test.true) in
    record { sound = sound; i_bound = below; task_value = held_task _ sound _ below; timings_offered = c.loop-i.invariant.1 }

pub returns : goal.returns
returns c =
    let sound = c.requires.sound in
    let end : c.loop-i.i ≡ task_count (problem_in c.args.inst) = omega (arith, held_taskcount _ sound, c.loop-i.invariant.0, c.loop-i-test.false) in
    rw end at c.loop-i.invariant.1
