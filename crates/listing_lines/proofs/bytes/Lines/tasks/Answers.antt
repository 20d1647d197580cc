use Prim.Native.Nat.{◌<◌}
use native.Mathlib.Omega.{arith}
use Rattle.instance.specs.Held.{problem_in, held_taskcount}
use Rattle.instance.specs.Node.{task_count}
use Rattle.listing_lines.specs.LinesPut.{none_done, room_for_part, part_done, all_done}
use Rattle.listing_lines.proofs.bytes.Lines.tasks.Goals as goal

pub loop-i-init : goal.loop-i-init
loop-i-init c = none_done _ _ _

pub task-requires : goal.task-requires
task-requires c =
    let more : c.loop-i.i < task_count (problem_in c.args.inst) = omega (arith, held_taskcount _ c.requires.sound) in
    record { sound = c.requires.sound; i_bound = more; i_in_bounds = omega (arith, c.requires.plan_len); room = room_for_part c.requires.room c.loop-i.invariant more }

pub loop-i-preserved : goal.loop-i-preserved
loop-i-preserved c =
    let more : c.loop-i.i < task_count (problem_in c.args.inst) = omega (arith, held_taskcount _ c.requires.sound) in
    part_done c.requires.room c.loop-i.invariant more c.task.ensures

pub returns : goal.returns
returns c = all_done c.requires.room c.loop-i.invariant (omega (arith, held_taskcount _ c.requires.sound))
