-- A drawing is three things together: choices that 7 allows, slots that name kept tasks of their core, and as many slots
-- for each job as it has ticks, all before its due tick.
use Rattle.std.specs.Prelude.{ℕ, suc, ◌+◌, ◌-◌, ◌*◌, ◌/◌, ◌≤◌, ◌<◌, Bool, true, false, List, ◌↔◌, ◌≡◌, refl, ltb, length}
use Rattle.std.proofs.Common.{inl, inr, ⊎_elim, div-mul-le_self, lt_of_lt_of_le, mul-le-mul_right, arith, ltb-true, ltb-false}
use Rattle.std.proofs.Math.Nat.{lt-div-mul-add}
use Rattle.std.proofs.Math.ListN.{get_or-eq_default}
use Rattle.laws.specs.Below.{lt_or_le}
use Rattle.instance.specs.Node.{Problem, task_count, task_at, span}
use Rattle.checks.specs.CheckLaws.{ServedJobs}
use Rattle.checks.specs.NamedSlots.{KeptSlot, NamedSlots}
use Rattle.checks.specs.Checks.{job_slots, late_slots}
use Rattle.plan_rules.specs.AllowedPlans.{AllowedPlan}
use Rattle.drawings.specs.Drawings.{Drawing, ExactSlots, JobSlot}
use Rattle.drawings.specs.ExactSlotLaws.{count_is_exact, count_is_none}
use Rattle.drawings.specs.ServedRows.{NoneLate}
use Rattle.tables.specs.Periods.{Periodic, period_positive, job_of_tick, next_release_in_span}
use Rattle.plan_rules.specs.Quantities.{choice_at, core_of, jobs, job_ticks}
use Rattle.plan_rules.specs.KeepsLaws.{core_of_kept}
use Rattle.plan_rules.specs.Windows.{release_of, due_of, window}
use Rattle.tables.specs.Tables.{slot_at}

-- beyond the plan's end every choice is 0
kept_is_task : (p : Problem) (plan : List ℕ) → length plan ≡ task_count p →
    (i : ℕ) → (choice_at plan i ≡ 0 → ⊥) → i < task_count p
kept_is_task p plan same i kept = go (ltb i (task_count p)) refl
  where
    go : (below : Bool) → ltb i (task_count p) ≡ below → i < task_count p
    go true t = ltb-true _ _ t
    go false t = absurd (kept (get_or-eq_default plan 0 (rw same (ltb-false _ _ t))))

-- a tick of one job's window lies in no stretch from a due tick of its task to the next release
window_is_not_late : (p d j m t : ℕ) → m * p ≤ t → t < m * p + d → j * p + d ≤ t → t < suc j * p → ⊥
window_is_not_late p d j m t released not_yet_due due next =
    ⊎_elim
    (λ later. omega (arith, mul-le-mul_right p later))
    (λ earlier. omega (arith, mul-le-mul_right p earlier))
    (lt_or_le j m)

job_slot_is_kept_slot : {p : Problem} {plan : List ℕ} {k t slot : ℕ} → JobSlot p plan k t slot → KeptSlot p plan k slot
job_slot_is_kept_slot s =
    record { task = s.task; its_number = s.its_number; kept = s.kept; on_its_core = s.on_its_core }

module _ (p : Problem) (periodic : Periodic p) (plan table : List ℕ) where
  job_has_its_ticks : (i j : ℕ) → (job_slots p plan table i j ≡ job_ticks p plan i) ↔
      ExactSlots (slot_at p table (core_of p plan i)) (suc i) (release_of p i j) (due_of p i j) (job_ticks p plan i)
  unfolding job_slots
  job_has_its_ticks i j =
      count_is_exact (slot_at p table (core_of p plan i)) (suc i) (release_of p i j) (window (task_at p i)) (job_ticks p plan i)

  pub no_late_slots : (i j : ℕ) → i < task_count p →
      (late_slots p plan table i j ≡ 0) ↔ NoneLate p (slot_at p table (core_of p plan i)) i j
  unfolding late_slots
  no_late_slots i j h =
      let none = count_is_none (slot_at p table (core_of p plan i)) (suc i) (due_of p i j) ((task_at p i).period - window (task_at p i)) in (
        λ e t due next. none.0 e t due (omega (arith, periodic.window_within_period i h)),
        λ late. none.1 (λ t due next. late t due (omega (arith, periodic.window_within_period i h))),
      )

  -- a slot that names a kept task is one of a job's, where none is late
  kept_slot_is_job_slot : length plan ≡ task_count p → ServedJobs p plan table →
      (k t : ℕ) → t < span p → KeptSlot p plan k (slot_at p table k t) → JobSlot p plan k t (slot_at p table k t)
  kept_slot_is_job_slot same served k t h s =
      let i = s.task in
      let j = t / (task_at p i).period in
      let is_task = kept_is_task p plan same i s.kept in
      let is_job = job_of_tick p periodic i t is_task h in
      let shown : slot_at p table (core_of p plan i) t ≡ suc i = rw s.on_its_core s.its_number in
      let before_next : t < release_of p i (suc j) = omega (arith, lt-div-mul-add {a = t} (period_positive p periodic i is_task)) in
      record {
        task = i;
        job = j;
        is_task = is_task;
        is_job = is_job;
        kept = s.kept;
        on_its_core = s.on_its_core;
        its_number = s.its_number;
        released = div-mul-le_self t (task_at p i).period;
        not_yet_due =
            ⊎_elim
            (λ (before : t < due_of p i j). before)
            (λ late. absurd ((no_late_slots i j is_task).0 (served i j is_task s.kept is_job).none_late t late before_next shown))
            (lt_or_le t (due_of p i j));
      }

  pub drawing_shows_none_late : Drawing p plan table → (k i j : ℕ) → k < p.cores → i < task_count p → j < jobs p i →
      NoneLate p (slot_at p table k) i j
  drawing_shows_none_late d k i j h g l t due next shown =
      ⊎_elim
      (λ (idle : slot_at p table k t ≡ 0). omega arith)
      (λ (s : JobSlot p plan k t (slot_at p table k t)).
      let same : s.task ≡ i = omega (arith, s.its_number) in
      window_is_not_late (task_at p i).period (window (task_at p i)) j s.job t
      (rw same at s.released) (rw same at s.not_yet_due) due next)
      (d.drawn.others_idle k t h (lt_of_lt_of_le next (next_release_in_span p periodic i j g l)))

  pub parts_of_drawing : Drawing p plan table → AllowedPlan p plan × NamedSlots p plan table × ServedJobs p plan table
  parts_of_drawing d = (
    d.allowed,
    record {
      table_length = d.drawn.table_length;
      idle_or_kept = λ k t h l.
          ⊎_elim (λ idle. inl idle) (λ s. inr (job_slot_is_kept_slot s)) (d.drawn.others_idle k t h l);
    },
    λ i j h kept l.
        record {
          in_window = (job_has_its_ticks i j).1 (d.drawn.jobs_served i j h kept l);
          none_late = (no_late_slots i j h).1 (drawing_shows_none_late d (core_of p plan i) i j (core_of_kept p plan d.allowed i h kept) h l);
        },
  )

  pub drawing_of_parts : AllowedPlan p plan × NamedSlots p plan table × ServedJobs p plan table → Drawing p plan table
  drawing_of_parts (allowed, named, served) =
      record {
        allowed = allowed;
        drawn =
            record {
              table_length = named.table_length;
              jobs_served = λ i j h kept l. (job_has_its_ticks i j).0 (served i j h kept l).in_window;
              others_idle = λ k t h l.
                  ⊎_elim
                  (λ idle. inl idle)
                  (λ s. inr (kept_slot_is_job_slot allowed.one_choice_per_task served k t l s))
                  (named.idle_or_kept k t h l);
            };
      }
