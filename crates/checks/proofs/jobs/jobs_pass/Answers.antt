use Prim.Native.Nat.{suc, ◌<◌}
use mathlib.Core.Bool.{not}
use mathlib.Core.Path.{◌≡◌, ap, sym, ◌∙◌}
use native.Mathlib.Nat.{le_refl, mod-lt}
use native.Mathlib.Numerals.{add-one}
use native.Mathlib.Omega.{arith}
use borrow.Author.Count.{below_none, below_more}
use Rattle.laws.specs.FirstLaws.{first_unique}
use Rattle.laws.specs.SearchFacts.{first_of_none}
use Rattle.instance.specs.Held.{problem_in, held_levelcount, held_span, held_task, held_taskcount}
use Rattle.instance.specs.Node.{task_count}
use Rattle.instance.specs.declared.Task.{Task}
use Rattle.refusals.specs.declared.Refusal.TheVariants.{JobSlots}
use Rattle.checks.specs.Checks.{is_served, jobs_pass}
use Rattle.checks.specs.HeldJobs.{held_row_within, held_window, held_window_within_period, task_served_is_served}
use Rattle.plan_rules.specs.HeldQuantities.{level_count_above_zero, level_count_at_most, start_ticks_at_most, cycles_at_most, held_job_ticks}
use Rattle.refusals.specs.VerdictLaws.{found_is_refused, none_found_passes}
use Rattle.checks.proofs.jobs.jobs_pass.Goals as goal
use Rattle.checks.proofs.jobs.jobs_pass.Goals.{After-is_served, After-level_of, In-loop-i}

is_task : (c : goal.In-loop-i) → c.loop-i.i < task_count (problem_in c.args.inst)
is_task c = omega (arith, held_taskcount _ c.requires.sound, c.loop-i-test.true)

level_below : (c : goal.After-level_of) → c.level_of.result < c.args.inst.levelcount
level_below c = rw c.level_of.ensures (mod-lt _ (level_count_above_zero _ c.requires.sound))

tested : (c : goal.After-is_served) → let a = c.args in
    not (is_served (problem_in a.inst) a.plan.now a.table.now c.loop-i.i) ≡ not c.is_served.result
tested c = let start = c in
    let s = start.requires.sound in
    let i = c.loop-i.i in
    let h : i < task_count (problem_in start.args.inst) = omega (arith, held_taskcount _ s, c.loop-i-test.true) in
    let its-period = ap (λ (t : Task). t.period) (held_task _ s i h) in
    let each = c.ticks_of-ticks.ensures ∙ held_job_ticks _ s i h start.args.plan.now _ c.level_of.ensures in
    ap not (sym (c.is_served.ensures
    ∙ task_served_is_served (problem_in start.args.inst) start.args.plan.now start.args.table.now i (held_span _ s) (held_levelcount _ s) its-period (held_window _ s i h) each))

pub loop-i-init : goal.loop-i-init
loop-i-init c = (omega arith, below_none _)

pub offset_bounds-plan-i : goal.offset_bounds-plan-i
offset_bounds-plan-i c = omega (arith, is_task (goal.at.offset_bounds-plan-i c).In-loop-i, c.requires.sound.valid.task_count_bound)

pub bounds-plan-i : goal.bounds-plan-i
bounds-plan-i c = omega (arith, is_task (goal.at.bounds-plan-i c).In-loop-i, c.requires.allowed_plan.one_choice_per_task)

pub offset_bounds-inst-i : goal.offset_bounds-inst-i
offset_bounds-inst-i c = omega (arith, is_task (goal.at.offset_bounds-inst-i c).In-loop-i, c.requires.sound.valid.task_count_bound)

pub bounds-inst-i : goal.bounds-inst-i
bounds-inst-i c = omega (arith, is_task (goal.at.bounds-inst-i c).In-loop-i, c.requires.sound.valid.task_count_bound)

pub level_of-requires : goal.level_of-requires
level_of-requires c = level_count_above_zero _ c.requires.sound

pub offset_bounds-inst-level_of : goal.offset_bounds-inst-level_of
offset_bounds-inst-level_of c = omega (arith, level_below (goal.at.offset_bounds-inst-level_of c).After-level_of, level_count_at_most _ c.requires.sound)

pub bounds-inst-level_of : goal.bounds-inst-level_of
bounds-inst-level_of c = omega (arith, level_below (goal.at.bounds-inst-level_of c).After-level_of, level_count_at_most _ c.requires.sound)

pub ticks_of-ticks-requires : goal.ticks_of-ticks-requires
ticks_of-ticks-requires c =
    let turn = c in
    let s = turn.requires.sound in
    (omega (arith, start_ticks_at_most _ s), cycles_at_most _ s _ (is_task (goal.at.ticks_of-ticks-requires c).In-loop-i))

pub overflow_cast-number : goal.overflow_cast-number
overflow_cast-number c = omega (arith, is_task (goal.at.overflow_cast-number c).In-loop-i, c.requires.sound.valid.task_count_bound)

pub is_served-requires : goal.is_served-requires
is_served-requires c = let start = c in
    let s = start.requires.sound in
    let h = is_task (goal.at.is_served-requires c).In-loop-i in
    record { levels_nonzero = level_count_above_zero _ s; task_bound = held_window_within_period _ s _ h; span_in_bounds = held_row_within _ s _ _ h start.requires.allowed_plan _ start.requires.table_len }

pub returns-then-not-is_served : goal.returns-then-not-is_served
unfolding jobs_pass
returns-then-not-is_served c = let start = c in
    let wanted = held_taskcount _ start.requires.sound in
    rw add-one
    (found_is_refused (λ n. JobSlots (suc n)) _ _ wanted _ _
    (sym (first_unique _ (record {
      at_most = omega (arith, c.loop-i-test.true, wanted);
      none_below = c.loop-i.invariant.1;
      passes_below = λ _. tested (goal.at.returns-then-not-is_served c).After-is_served ∙ ap not c.if-not-is_served.true;
    })))
    c.loop-i-test.true)

pub loop-i-smaller : goal.loop-i-smaller
loop-i-smaller c = omega (arith, c.loop-i-test.true)

pub loop-i-preserved : goal.loop-i-preserved
loop-i-preserved c = (omega (arith, c.loop-i-test.true), below_more _ _ c.loop-i.invariant.1 (tested (goal.at.loop-i-preserved c).After-is_served ∙ ap not c.if-not-is_served.false))

pub returns : goal.returns
unfolding jobs_pass
returns c = let start = c in
    let wanted = held_taskcount _ start.requires.sound in
    none_found_passes (λ n. JobSlots (suc n)) _ _ wanted _ _
    (wanted ∙ sym (first_of_none _ _ (λ x l. c.loop-i.invariant.1 x (omega (arith, c.loop-i-test.false, wanted)))))
    (le_refl _)
