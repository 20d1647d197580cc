use mathlib.Core.Path.{refl}
use native.Mathlib.Omega.{arith}
use Rattle.instance.specs.Held.{held_task, held_taskcount}
use Rattle.planner.specs.EarlyLaws.{none_so_far, one_more, all_at_period_end}
use Rattle.laws.specs.Truth.{false_not_true}
use Rattle.planner.proofs.best.is_early.Goals as goal

pub loop-i-init : goal.loop-i-init
loop-i-init c = (omega arith, none_so_far _)

pub offset_bounds-inst-i : goal.offset_bounds-inst-i
offset_bounds-inst-i c =
    let sound = c.requires in omega (arith, held_taskcount _ sound, c.loop-i-test.true, sound.valid.task_count_bound)

pub bounds-inst-i : goal.bounds-inst-i
bounds-inst-i c =
    let sound = c.requires in omega (arith, held_taskcount _ sound, c.loop-i-test.true, sound.valid.task_count_bound)

pub returns-then-task : goal.returns-then-task
returns-then-task c =
    λ e. absurd (false_not_true e refl)

pub loop-i-preserved : goal.loop-i-preserved
loop-i-preserved c =
    let start = c in
    let sound = start.requires in
    let at = c.loop-i in
    let task = held_task _ sound at.i (omega (arith, held_taskcount _ sound, c.loop-i-test.true)) in (
      omega (arith, c.loop-i-test.true),
      one_more sound.valid (omega (arith, held_taskcount _ sound, c.loop-i-test.true)) (rw (← task) (omega (arith, c.if-task.false))) at.invariant.1,
    )

pub returns : goal.returns
returns c =
    let sound = c.requires in
    λ e. all_at_period_end (omega (arith, held_taskcount _ sound, c.loop-i-test.false)) c.loop-i.invariant.1
