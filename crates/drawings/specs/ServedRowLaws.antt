-- The tables whose rows all serve their cores are the drawings' tables.
use Rattle.std.specs.Prelude.{ℕ, suc, ◌+◌, ◌*◌, ◌<◌, Bool, ◌⊎◌, ◌≡◌, length}
use Rattle.std.proofs.Math.Bool.{true, false, cond}
use mathlib.Core.List.Memᴰ
use mathlib.Core.List.{List, [], ◌∷◌, Memᴰ}
use Rattle.std.proofs.Math.Logic.{inl, inr, ⊎_elim}
use Rattle.std.proofs.Math.Path.{refl, subst}
use Rattle.std.proofs.Common.{sym, ap, ◌∙◌, lt_of_lt_of_le, zero-lt-suc, arith}
use Rattle.std.proofs.Math.Dec.{eqb}
use borrow.Author.Tests.{ne_eqb}
use Rattle.laws.specs.Search.{count}
use Rattle.laws.specs.SearchFacts.{count_same, count_of_none}
use Rattle.laws.specs.Truth.{false_not_true}
use Rattle.instance.specs.Node.{Problem, task_count, task_at, span}
use Rattle.checks.specs.NamedSlots.{KeptSlot}
use Rattle.plan_rules.specs.KeepsLaws.{keeps_iff, ticks_where_kept, kept_where_ticks, core_of_kept}
use Rattle.checks.specs.Checks.{job_slots}
use Rattle.drawings.specs.DrawingLaws.{drawing_of_parts, parts_of_drawing, no_late_slots, drawing_shows_none_late}
use Rattle.plan_rules.specs.AllowedPlans.{AllowedPlan}
use Rattle.drawings.specs.Drawings.{Drawing, JobSlot}
use Rattle.tables.specs.Periods.{Periodic, tick_of_job, next_release_in_span}
use Rattle.plan_rules.specs.Quantities.{core_of, keeps, jobs, job_ticks, ticks_on}
use Rattle.plan_rules.specs.Windows.{release_of, window}
use Rattle.tables.specs.Tables.{slot_at}
use Rattle.drawings.specs.ServedRows.{OwedSlot, RowServes}

member_length : (t : ℕ) (xs : List ℕ) → Memᴰ t xs → 0 < length xs
member_length t [] m = absurd (Memᴰ.not-nil m)
member_length t (x ∷ xs) m = zero-lt-suc (length xs)

module _ (p : Problem) (plan : List ℕ) where
  owed_slot_is_kept_slot : (k slot : ℕ) → OwedSlot p plan k slot → KeptSlot p plan k slot
  owed_slot_is_kept_slot k slot s =
      let kept = (keeps_iff p plan k s.task).0 (kept_where_ticks p plan k s.task s.has_ticks) in
      record { task = s.task; its_number = s.its_number; kept = kept.0; on_its_core = kept.1 }

module _ (p : Problem) (periodic : Periodic p) (plan : List ℕ) where
  -- only the span's ticks matter
  pub serves_same : (k : ℕ) (slots others : ℕ → ℕ) → ((t : ℕ) → t < span p → slots t ≡ others t) →
      RowServes p plan k slots → RowServes p plan k others
  serves_same k slots others same serves =
      record {
        each_job = λ i j h l.
            count_same _ _ _ (λ x w. ap (λ (s : ℕ). eqb s (suc i)) (sym (same _ (tick_of_job p periodic i j x h l w))))
            ∙ serves.each_job i j h l;
        idle_or_owed = λ t h.
            subst (λ (s : ℕ). (s ≡ 0) ⊎ OwedSlot p plan k s) (same t h) (serves.idle_or_owed t h);
        none_late = λ i j h l t due next shown.
            serves.none_late i j h l t due next (same t (lt_of_lt_of_le next (next_release_in_span p periodic i j h l)) ∙ shown);
      }

module _ (p : Problem) (periodic : Periodic p) (plan table : List ℕ) where
  pub drawing_of_rows : AllowedPlan p plan → length table ≡ p.cores * span p →
      ((k : ℕ) → k < p.cores → RowServes p plan k (slot_at p table k)) → Drawing p plan table
  unfolding job_slots
  drawing_of_rows allowed size serves =
      drawing_of_parts p periodic plan table (
        allowed,
        record {
          table_length = size;
          idle_or_kept = λ k t h l.
              ⊎_elim (λ idle. inl idle) (λ s. inr (owed_slot_is_kept_slot p plan k _ s)) ((serves k h).idle_or_owed t l);
        },
        λ i j h kept l.
            let k = core_of p plan i in
            let its_row = serves k (core_of_kept p plan allowed i h kept) in
            record {
              in_window = its_row.each_job i j h l ∙ ticks_where_kept p plan k i kept refl;
              none_late = (no_late_slots p periodic plan table i j h).1 (its_row.none_late i j h l);
            },
      )

  -- no slot of row k names a task that is not kept on k
  unkept_has_no_slot : Drawing p plan table → (k i t : ℕ) → k < p.cores → t < span p →
      keeps p plan k i ≡ false → slot_at p table k t ≡ suc i → ⊥
  unkept_has_no_slot d k i t h l not_kept named =
      ⊎_elim
      (λ (idle : slot_at p table k t ≡ 0). omega arith)
      (λ (s : JobSlot p plan k t (slot_at p table k t)).
      let same : s.task ≡ i = omega arith in
      false_not_true (rw (← same) at not_kept) ((keeps_iff p plan k s.task).1 (s.kept, s.on_its_core)))
      (d.drawn.others_idle k t h l)

  drawing_serves_job : Drawing p plan table → (k i j : ℕ) → k < p.cores → i < task_count p → j < jobs p i →
      count (λ x. eqb (slot_at p table k (release_of p i j + x)) (suc i)) (window (task_at p i)) ≡ ticks_on p plan k i
  unfolding ticks_on job_slots
  drawing_serves_job d k i j h g l = go (keeps p plan k i) refl
    where
      go : (kept : Bool) → keeps p plan k i ≡ kept →
          count (λ x. eqb (slot_at p table k (release_of p i j + x)) (suc i)) (window (task_at p i))
          ≡ cond kept (job_ticks p plan i) 0
      go true e =
          let kept = (keeps_iff p plan k i).0 e in
          subst
          (λ (c : ℕ).
          count (λ x. eqb (slot_at p table c (release_of p i j + x)) (suc i)) (window (task_at p i)) ≡ job_ticks p plan i)
          kept.1
          ((parts_of_drawing p periodic plan table d).2 i j g kept.0 l).in_window
      go false e =
          count_of_none _ _ (λ x w.
          ne_eqb _ _ (unkept_has_no_slot d k i (release_of p i j + x) h (tick_of_job p periodic i j x g l w) e))

  job_slot_is_owed_slot : Drawing p plan table → (k t : ℕ) →
      JobSlot p plan k t (slot_at p table k t) → OwedSlot p plan k (slot_at p table k t)
  job_slot_is_owed_slot d k t s =
      let i = s.task in
      let exact = d.drawn.jobs_served i s.job s.is_task s.kept s.is_job in
      let shown : slot_at p table (core_of p plan i) t ≡ suc i = rw s.on_its_core s.its_number in
      let listed = member_length t exact.at ((exact.all_and_only t).1 (s.released, s.not_yet_due, shown)) in
      record {
        task = i;
        is_task = s.is_task;
        its_number = s.its_number;
        has_ticks = rw (ticks_where_kept p plan k i s.kept s.on_its_core, ← exact.as_many) listed;
      }

  pub drawing_serves_cores : Drawing p plan table → (k : ℕ) → k < p.cores → RowServes p plan k (slot_at p table k)
  drawing_serves_cores d k h =
      record {
        each_job = λ i j. drawing_serves_job d k i j h;
        idle_or_owed = λ t l.
            ⊎_elim (λ idle. inl idle) (λ s. inr (job_slot_is_owed_slot d k t s)) (d.drawn.others_idle k t h l);
        none_late = λ i j. drawing_shows_none_late p periodic plan table d k i j h;
      }
