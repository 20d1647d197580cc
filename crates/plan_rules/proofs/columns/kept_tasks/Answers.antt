use Prim.Native.Nat.{◌<◌}
use mathlib.Core.Path.{◌≡◌, refl, sym, ap, ◌∙◌}
use lib.ListN.{get_or}
use native.Mathlib.Omega.{arith}
use Rattle.instance.specs.Held.{problem_in, held_task, held_taskcount}
use Rattle.instance.specs.Node.{task_count}
use Rattle.instance.specs.declared.Level.{Level}
use Rattle.instance.specs.declared.Task.{Task}
use Rattle.ranges.specs.Limits.{most_tasks}
use Rattle.plan_rules.specs.HeldQuantities.{level_count_above_zero, level_below, start_ticks_at_most, cycles_at_most, held_level_of, held_job_ticks, held_keeps}
use Rattle.plan_rules.specs.KeptColumnLaws.{no_tasks_yet, passed_over, entered}
use Rattle.plan_rules.specs.Windows.{window}
use Rattle.plan_rules.proofs.columns.kept_tasks.Goals as goal
use Rattle.plan_rules.proofs.columns.kept_tasks.Goals.{In-loop-i, then-names_core, else-names_core}

task_below : (c : goal.In-loop-i) → c.loop-i.i < task_count (problem_in c.args.inst)
task_below c = omega (arith, held_taskcount _ c.requires.sound, c.loop-i-test.true)

task_is_few : (c : goal.In-loop-i) → c.loop-i.i < most_tasks
task_is_few c = omega (arith, task_below c, c.requires.sound.valid.task_count_bound)

has_place : (c : goal.In-loop-i) → c.loop-i.kept.count < most_tasks
has_place c = omega (arith, c.loop-i.invariant.1.no_more, task_is_few c)

pub loop-i-init : goal.loop-i-init
loop-i-init c =
    (omega arith, no_tasks_yet _ _ _ _ refl (record { of_numbers = refl; of_periods = refl; of_windows = refl; of_ticks = refl; of_powers = refl }))

pub offset_bounds-plan-i : goal.offset_bounds-plan-i
offset_bounds-plan-i c = omega (arith, task_is_few (goal.at.offset_bounds-plan-i c).In-loop-i)

pub bounds-plan-i : goal.bounds-plan-i
bounds-plan-i c = omega (arith, task_below (goal.at.bounds-plan-i c).In-loop-i, c.requires.plan_len)

pub names_core-requires : goal.names_core-requires
names_core-requires c = level_count_above_zero _ c.requires.sound

pub offset_bounds-inst-i : goal.offset_bounds-inst-i
offset_bounds-inst-i c = omega (arith, task_is_few (goal.at.offset_bounds-inst-i c).In-loop-i)

pub bounds-inst-i : goal.bounds-inst-i
bounds-inst-i c = omega (arith, task_is_few (goal.at.bounds-inst-i c).In-loop-i)

pub level_of-requires : goal.level_of-requires
level_of-requires c = level_count_above_zero _ c.requires.sound

pub offset_bounds-inst-level_of : goal.offset_bounds-inst-level_of
offset_bounds-inst-level_of c =
    omega (arith, level_below _ c.requires.sound _ _ c.level_of.ensures)

pub bounds-inst-level_of : goal.bounds-inst-level_of
bounds-inst-level_of c =
    omega (arith, level_below _ c.requires.sound _ _ c.level_of.ensures)

pub overflow_add-kept : goal.overflow_add-kept
overflow_add-kept c = omega (arith, task_is_few (goal.at.overflow_add-kept c).In-loop-i)

pub overflow_cast-kept : goal.overflow_cast-kept
overflow_cast-kept c = omega (arith, task_is_few (goal.at.overflow_cast-kept c).In-loop-i)

pub bounds-kept-n : goal.bounds-kept-n
bounds-kept-n c = omega (arith, has_place (goal.at.bounds-kept-n c).In-loop-i)

pub offset_bounds-kept-n : goal.offset_bounds-kept-n
offset_bounds-kept-n c = omega (arith, has_place (goal.at.offset_bounds-kept-n c).In-loop-i)

pub bounds-kept-n-then-names_core : goal.bounds-kept-n-then-names_core
bounds-kept-n-then-names_core c = omega (arith, has_place (goal.at.bounds-kept-n-then-names_core c).In-loop-i)

pub offset_bounds-kept-n-then-names_core : goal.offset_bounds-kept-n-then-names_core
offset_bounds-kept-n-then-names_core c = omega (arith, has_place (goal.at.offset_bounds-kept-n-then-names_core c).In-loop-i)

pub bounds-kept-n-then-names_core-2 : goal.bounds-kept-n-then-names_core-2
bounds-kept-n-then-names_core-2 c = omega (arith, has_place (goal.at.bounds-kept-n-then-names_core-2 c).In-loop-i)

pub ticks_of-requires : goal.ticks_of-requires
ticks_of-requires c =
    let turn = c in
    let s = turn.requires.sound in
    (omega (arith, start_ticks_at_most _ s), cycles_at_most _ s _ (task_below (goal.at.ticks_of-requires c).In-loop-i))

pub offset_bounds-kept-n-then-names_core-2 : goal.offset_bounds-kept-n-then-names_core-2
offset_bounds-kept-n-then-names_core-2 c = omega (arith, has_place (goal.at.offset_bounds-kept-n-then-names_core-2 c).In-loop-i)

pub bounds-kept-n-then-names_core-3 : goal.bounds-kept-n-then-names_core-3
bounds-kept-n-then-names_core-3 c = omega (arith, has_place (goal.at.bounds-kept-n-then-names_core-3 c).In-loop-i)

pub offset_bounds-kept-n-then-names_core-3 : goal.offset_bounds-kept-n-then-names_core-3
offset_bounds-kept-n-then-names_core-3 c = omega (arith, has_place (goal.at.offset_bounds-kept-n-then-names_core-3 c).In-loop-i)

pub bounds-kept-n-then-names_core-4 : goal.bounds-kept-n-then-names_core-4
bounds-kept-n-then-names_core-4 c = omega (arith, has_place (goal.at.bounds-kept-n-then-names_core-4 c).In-loop-i)

pub overflow_add-kept-then-names_core : goal.overflow_add-kept-then-names_core
overflow_add-kept-then-names_core c = omega (arith, has_place (goal.at.overflow_add-kept-then-names_core c).In-loop-i)

pub loop-i-smaller : goal.loop-i-smaller
loop-i-smaller c = omega (arith, c.loop-i-test.true)

pub loop-i-preserved : goal.loop-i-preserved
loop-i-preserved c =
    let s = c.requires.sound in
    let plan = c.args.plan.now in
    let at = c.loop-i in
    let below = task_below (goal.at.loop-i-preserved c).In-loop-i in
    let task = held_task _ s at.i below in
    let keeps_it = sym (c.names_core.ensures ∙ held_keeps _ s plan c.args.k at.i) in (
      omega (arith, c.loop-i-test.true),
      elim c.if-names_core.branch [
        | then-names_core w ↦
            let level = held_level_of _ s (get_or plan at.i 0) _ w.level_of.ensures in
            rw w.kept-is
            (entered _ _ _ _ _ at.invariant.1 _ _ _ _ _ (task_is_few (goal.at.loop-i-preserved c).In-loop-i) (keeps_it ∙ w.if-names_core.true) refl
            (ap (λ (t : Task). t.period) task) (w.window_of.ensures ∙ ap window task)
            (w.ticks_of.ensures ∙ held_job_ticks _ s at.i below plan _ w.level_of.ensures)
            (ap (λ (v : Level). v.power) level))
        | else-names_core w ↦ rw w.kept-is (passed_over _ _ _ _ _ at.invariant.1 (keeps_it ∙ w.if-names_core.false))
      ],
    )

pub returns : goal.returns
returns c =
    let all : c.loop-i.i ≡ task_count (problem_in c.args.inst) = omega (arith, held_taskcount _ c.requires.sound) in
    rw all at c.loop-i.invariant.1
