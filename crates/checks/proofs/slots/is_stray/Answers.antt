use Prim.Native.Nat.{ℕ}
use mathlib.Core.Bool.{not}
use mathlib.Core.Path.{ap, ◌∙◌}
use lib.Dec.{eqb}
use borrow.Author.Tests.{eq-eqb}
use Rattle.checks.specs.HeldSlots.{idle_slot_is_not_stray, slot_of_refused_task_is_stray, slot_of_kept_task_is_stray_on_other_cores, slot_past_tasks_is_stray}
use Rattle.checks.proofs.slots.is_stray.Goals as goal

pub returns-then-slot-eq0 : goal.returns-then-slot-eq0
returns-then-slot-eq0 c = idle_slot_is_not_stray _ _ _ _ c.if-slot-eq0.true

pub returns-then-choice-eq0 : goal.returns-then-choice-eq0
returns-then-choice-eq0 c = eq-eqb _ _ c.if-choice-eq0.true ∙ slot_of_refused_task_is_stray _ _ _ _ c.if-slot-eq0.false c.if-choice-eq0.true

pub returns-else-choice-eq0 : goal.returns-else-choice-eq0
returns-else-choice-eq0 c = let start = c in
    ap (λ (core : ℕ). not (eqb core start.args.k)) c.core_of.ensures
    ∙ slot_of_kept_task_is_stray_on_other_cores _ _ _ _ c.if-slot-eq0.false c.if-choice-eq0.false

pub returns : goal.returns
returns c = slot_past_tasks_is_stray _ _ _ _ c.if-slot-eq0.false c.if-i-plan.false
