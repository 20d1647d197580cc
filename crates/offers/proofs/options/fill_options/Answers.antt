use Prim.Native.Nat.{◌<◌}
use mathlib.Core.Path.{◌≡◌, ◌∙◌}
use native.Mathlib.Omega.{arith}
use lib.ListN.{get_or}
use Rattle.instance.specs.Held.{problem_in, held_taskcount, held_task}
use Rattle.instance.specs.Node.{no_task, task_count}
use Rattle.instance.specs.declared.Task.{Task}
use Rattle.ranges.specs.Limits.{most_tasks}
use Rattle.offers.specs.HeldOptions.{penalty_weight_at_most, jobs_at_most_span, held_refusal, held_must}
use Rattle.offers.specs.OfferedOptions.{options_offered}
use Rattle.offers.proofs.options.fill_options.Goals as goal
use Rattle.offers.proofs.options.fill_options.Goals.{In-loop-i}

task_below : (c : In-loop-i) → c.loop-i.i < task_count (problem_in c.args.inst)
task_below c = omega (arith, held_taskcount _ c.requires.sound)

task_within : (c : In-loop-i) → c.loop-i.i < most_tasks
task_within c = omega (arith, task_below c, c.requires.sound.valid.task_count_bound)

-- the task of this turn
abbrev turn_task : In-loop-i → Task
turn_task c = get_or c.args.inst.tasks c.loop-i.i no_task

pub loop-i-init : goal.loop-i-init
loop-i-init c = (omega arith, c.requires.options_offered)

pub offset_bounds-inst-i : goal.offset_bounds-inst-i
offset_bounds-inst-i c = omega (arith, task_within (goal.at.offset_bounds-inst-i c).In-loop-i)

pub bounds-inst-i : goal.bounds-inst-i
bounds-inst-i c = task_within (goal.at.bounds-inst-i c).In-loop-i

pub fill_levels-requires : goal.fill_levels-requires
fill_levels-requires c =
    let turn = c in
    let sound = turn.requires.sound in
    record { sound = sound; i_bound = task_below (goal.at.fill_levels-requires c).In-loop-i; task_value = held_task _ sound _ (task_below (goal.at.fill_levels-requires c).In-loop-i); levels_offered = turn.loop-i.invariant.1.levels }

pub refusal_of-requires : goal.refusal_of-requires
refusal_of-requires c =
    let turn = c in
    let sound = turn.requires.sound in
    (penalty_weight_at_most _ sound, jobs_at_most_span _ sound (turn_task (goal.at.refusal_of-requires c).In-loop-i) _ c.jobs_in-missed.ensures)

pub offset_bounds-refusal-i : goal.offset_bounds-refusal-i
offset_bounds-refusal-i c = omega (arith, task_within (goal.at.offset_bounds-refusal-i c).In-loop-i)

pub bounds-refusal-i : goal.bounds-refusal-i
bounds-refusal-i c = task_within (goal.at.bounds-refusal-i c).In-loop-i

pub bounds-must-i : goal.bounds-must-i
bounds-must-i c = task_within (goal.at.bounds-must-i c).In-loop-i

pub loop-i-smaller : goal.loop-i-smaller
loop-i-smaller c = omega arith

pub loop-i-preserved : goal.loop-i-preserved
loop-i-preserved c =
    let turn = c in
    let sound = turn.requires.sound in
    let task = held_task _ sound _ (task_below (goal.at.loop-i-preserved c).In-loop-i) in (
      omega arith,
      options_offered _ _ _ _ _ _ _ _ _ _ (task_within (goal.at.loop-i-preserved c).In-loop-i) turn.loop-i.invariant.1 c.fill_levels.ensures
          (c.refusal_of.ensures ∙ held_refusal _ sound (turn_task (goal.at.loop-i-preserved c).In-loop-i) _ c.jobs_in-missed.ensures _ task)
          (held_must _ sound _ (task_below (goal.at.loop-i-preserved c).In-loop-i)),
    )

pub returns : goal.returns
returns c =
    let start = c in
    let end : c.loop-i.i ≡ task_count (problem_in start.args.inst) = omega (arith, held_taskcount _ start.requires.sound) in
    rw end at c.loop-i.invariant.1
