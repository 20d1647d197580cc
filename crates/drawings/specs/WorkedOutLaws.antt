-- The one table that is worked out by the paper's rule is the table of the plan.
use Rattle.refusals.specs.Refusals.{accepted}
use Prim.Native.Nat.{ℕ, zero, suc, ◌/◌, ◌%◌, ◌*◌, ◌≤◌, ◌<◌}
use Rattle.std.specs.Prelude.{List, ◌↔◌, ◌≡◌}
use Rattle.std.proofs.Common.{⊎_elim, sym, ◌∙◌, eq-or-lt_of_le, eq-zero-or-pos, le_refl, arith, ext_get_or}
use Rattle.std.proofs.Math.Nat.{div-mul-le_self}
use Rattle.laws.specs.Below.{lt_or_le}
use Rattle.instance.specs.Node.{Problem, task_count, task_at, span}
use Rattle.dispatch.specs.DispatchLaws.{ready_at, slot_is_choice}
use Rattle.dispatch.specs.Earliest.{Choice, choice_unique}
use Rattle.dispatch.specs.Rows.{slot_of, due_at}
use Rattle.edf.specs.Demand.{Demand}
use Rattle.drawings.specs.FitLaws.{windows_well_formed, passing_core_meets_demand}
use Rattle.edf.specs.PendingJobLaws.{unfinished_is_latest, ready_is_unfinished}
use Rattle.tables.specs.Periods.{Periodic, row_of_index, tick_of_index, slot_of_index}
use Rattle.plan_rules.specs.Plans.{plan_passes}
use Rattle.tables.specs.TableLaws.{length-table_of, slot_at-table_of}
use Rattle.plan_rules.specs.CoreOfPlan.{core_tasks}
use Rattle.tables.specs.Tables.{table_of, slot_at}
use Rattle.plan_rules.specs.Windows.{due_of}
use Rattle.drawings.specs.WorkedOut.{Pending, EarliestDueRuns, WorkedOut}

module _ (p : Problem) (periodic : Periodic p) (plan : List ℕ) (k : ℕ) (demand : Demand (core_tasks p plan k)) where
  -- Where a row agrees with dispatching up to now, the pending jobs are the last released ones that dispatching has ticks
  -- left of, so that the rule and dispatching choose alike.
  module _ (slots : ℕ → ℕ) (t : ℕ) (same : (u : ℕ) → u < t → slots u ≡ slot_of (core_tasks p plan k) u) where
    pending_is_latest : (i j : ℕ) → Pending p plan k slots t i j →
        (j ≡ t / (task_at p i).period) × (0 < ready_at (core_tasks p plan k) t i)
    unfolding core_tasks
    pending_is_latest i j pending =
        unfinished_is_latest
        (core_tasks p plan k)
        (windows_well_formed p periodic plan k)
        demand
        i
        pending.is_task
        slots
        t
        same
        j
        pending.released
        pending.not_finished

    latest_is_pending : (i : ℕ) → i < task_count p → 0 < ready_at (core_tasks p plan k) t i →
        Pending p plan k slots t i (t / (task_at p i).period)
    unfolding core_tasks
    latest_is_pending i l ready =
        record {
          is_task = l;
          released = div-mul-le_self t (task_at p i).period;
          not_finished = ready_is_unfinished (core_tasks p plan k) (windows_well_formed p periodic plan k) demand i l slots t same ready;
        }

    due_of_pending : (i j : ℕ) → Pending p plan k slots t i j → due_of p i j ≡ due_at (core_tasks p plan k) t i
    unfolding core_tasks due_at
    due_of_pending i j pending = rw (pending_is_latest i j pending).0

    rule_to_choice : {slot : ℕ} → EarliestDueRuns p plan k slots t slot →
        Choice (due_at (core_tasks p plan k) t) (ready_at (core_tasks p plan k) t) (task_count p) slot
    rule_to_choice (EarliestDueRuns.idle none) =
        Choice.idle (λ i l. ⊎_elim (λ e. e) (λ ready. absurd (none i _ (latest_is_pending i l ready))) (eq-zero-or-pos _))
    rule_to_choice (EarliestDueRuns.runs i j pending first lower) =
        Choice.runs i pending.is_task (pending_is_latest i j pending).1 none_earlier lower_is_later
      where
        none_earlier : (i₂ : ℕ) → i₂ < task_count p → 0 < ready_at (core_tasks p plan k) t i₂ →
            due_at (core_tasks p plan k) t i ≤ due_at (core_tasks p plan k) t i₂
        none_earlier i₂ l ready =
            let other = latest_is_pending i₂ l ready in
            omega (arith, first i₂ _ other, due_of_pending i j pending, due_of_pending i₂ _ other)

        lower_is_later : (i₂ : ℕ) → i₂ < i → 0 < ready_at (core_tasks p plan k) t i₂ →
            due_at (core_tasks p plan k) t i < due_at (core_tasks p plan k) t i₂
        lower_is_later i₂ before ready =
            let l : i₂ < task_count p = omega (arith, pending.is_task) in
            let other = latest_is_pending i₂ l ready in
            ⊎_elim
            (λ same_due. absurd (omega (arith, lower i₂ _ other (due_of_pending i₂ _ other ∙ sym same_due ∙ sym (due_of_pending i j pending)))))
            (λ later. later)
            (eq-or-lt_of_le (none_earlier i₂ l ready))

    choice_to_rule : {slot : ℕ} → Choice (due_at (core_tasks p plan k) t) (ready_at (core_tasks p plan k) t) (task_count p) slot →
        EarliestDueRuns p plan k slots t slot
    choice_to_rule (Choice.idle all) =
        EarliestDueRuns.idle (λ i j pending. omega (arith, all i pending.is_task, pending_is_latest i j pending))
    choice_to_rule (Choice.runs i l ready first lower) =
        let latest = latest_is_pending i l ready in
        let due = due_of_pending i _ latest in
        EarliestDueRuns.runs
        i
        (t / (task_at p i).period)
        latest
        (λ i₂ j₂ other. omega (arith, first i₂ other.is_task (pending_is_latest i₂ j₂ other).1, due_of_pending i₂ j₂ other, due))
        (λ i₂ j₂ other same_due.
        ⊎_elim
        (λ before. absurd (omega (arith, lower i₂ before (pending_is_latest i₂ j₂ other).1, due_of_pending i₂ j₂ other, due)))
        (λ (from : i ≤ i₂). from)
        (lt_or_le i₂ i))

  -- a row by the rule is the row that dispatching fills
  row_by_rule : (slots : ℕ → ℕ) → ((t : ℕ) → t < span p → EarliestDueRuns p plan k slots t (slots t)) →
      (b t : ℕ) → t < b → t < span p → slots t ≡ slot_of (core_tasks p plan k) t
  unfolding core_tasks
  row_by_rule slots rule zero t l h = absurd (omega arith)
  row_by_rule slots rule (suc b) t l h =
      let before : (u : ℕ) → u < t → slots u ≡ slot_of (core_tasks p plan k) u =
      λ u m. row_by_rule slots rule b u (omega arith) (omega arith) in
      choice_unique (rule_to_choice slots t before (rule t h)) (slot_is_choice (core_tasks p plan k) t)

  rule_of_row : (slots : ℕ → ℕ) → ((t : ℕ) → t < span p → slots t ≡ slot_of (core_tasks p plan k) t) →
      (t : ℕ) → t < span p → EarliestDueRuns p plan k slots t (slots t)
  unfolding core_tasks
  rule_of_row slots same t h =
      choice_to_rule slots t (λ u m. same u (omega arith)) (rw (same t h) (slot_is_choice (core_tasks p plan k) t))

module _ (p : Problem) (periodic : Periodic p) (plan : List ℕ) (passes : plan_passes p plan ≡ accepted) where
  table_is_worked_out : WorkedOut p plan (table_of p plan)
  table_is_worked_out =
      record {
        table_length = length-table_of p plan;
        by_rule = λ k t h.
            rule_of_row
            p
            periodic
            plan
            k
            (passing_core_meets_demand p periodic plan passes k h)
            (slot_at p (table_of p plan) k)
            (λ u. slot_at-table_of p plan k u h)
            t;
      }

  same_slot : (table : List ℕ) → WorkedOut p plan table → (k t : ℕ) → k < p.cores → t < span p →
      slot_at p table k t ≡ slot_at p (table_of p plan) k t
  same_slot table worked k t h l =
      let demand = passing_core_meets_demand p periodic plan passes k h in
      row_by_rule p periodic plan k demand (slot_at p table k) (λ u. worked.by_rule k u h) (suc t) t (le_refl (suc t)) l
      ∙ sym (slot_at-table_of p plan k t h l)

-- That the plan passes is needed: on a core that does not fit, a job that is unfinished when the next of its task is
-- released still waits under the rule, while dispatching drops it. With two ticks a job, task 1 of period 2 and task 2 of
-- period 3, job 0 of task 2 lacks a tick when it is due at 3: the rule has the row 1 1 2 2 1 1, dispatching 1 1 2 1 1 1.
pub worked_out_is_table : (p : Problem) → Periodic p → (plan : List ℕ) → plan_passes p plan ≡ accepted → (table : List ℕ) →
    WorkedOut p plan table ↔ (table ≡ table_of p plan)
worked_out_is_table p periodic plan passes table = (
  λ worked.
      ext_get_or 0 table (table_of p plan) (worked.table_length ∙ sym (length-table_of p plan)) (λ x h.
      let l : x < p.cores * span p = rw worked.table_length at h in
      sym (slot_of_index p table x)
      ∙ same_slot p periodic plan passes table worked (x / span p) (x % span p) (row_of_index p periodic x l) (tick_of_index p periodic x)
      ∙ slot_of_index p (table_of p plan) x),
  λ e. rw e (table_is_worked_out p periodic plan passes),
)
