-- In a drawing's table a core is busy for as many ticks of the span as its load.
use Rattle.std.specs.Prelude.{ℕ, suc, ◌+◌, ◌<◌, not, List, ◌⊎◌, ◌≡◌}
use Rattle.std.proofs.Common.{inl, inr, ⊎_elim, ◌∙◌, arith, ne_eqb}
use Rattle.std.proofs.Math.Path.{sym}
use Rattle.std.proofs.Math.Dec.{eqb}
use Rattle.laws.specs.CountLaws.{count_of_front, count_of_periods, Numbered, count_of_numbered}
use Rattle.laws.specs.Search.{count}
use Rattle.laws.specs.SumLaws.{sum_cong}
use Rattle.instance.specs.Node.{Problem, task_count, task_at, span}
use Rattle.drawings.specs.Drawings.{Drawing}
use Rattle.drawings.specs.ServedRowLaws.{drawing_serves_cores}
use Rattle.drawings.specs.ServedRows.{RowServes, OwedSlot}
use Rattle.plan_rules.specs.Quantities.{jobs, ticks_on, load_on, core_load}
use Rattle.plan_rules.specs.Windows.{release_of, window}
use Rattle.tables.specs.Periods.{Periodic, jobs_fill_span}
use Rattle.tables.specs.Tables.{slot_at}

module _ (p : Problem) (periodic : Periodic p) (plan : List ℕ) (k : ℕ) (slots : ℕ → ℕ) (serves : RowServes p plan k slots) where
  -- a job has its ticks in its window, and no slot after it
  slots_of_period : (i : ℕ) → i < task_count p → (j : ℕ) → j < jobs p i →
      count (λ x. eqb (slots (release_of p i j + x)) (suc i)) (task_at p i).period ≡ ticks_on p plan k i
  slots_of_period i h j l =
      count_of_front _ (window (task_at p i)) (task_at p i).period (periodic.window_within_period i h)
      (λ x due next. ne_eqb _ _ (serves.none_late i j h l (release_of p i j + x) (omega arith) (omega arith)))
      ∙ serves.each_job i j h l

  slots_of_task : (i : ℕ) → i < task_count p → count (λ t. eqb (slots t) (suc i)) (span p) ≡ load_on p plan k i
  unfolding load_on
  slots_of_task i h =
      rw (← jobs_fill_span p periodic i h)
      (count_of_periods (λ t. eqb (slots t) (suc i)) (task_at p i).period (ticks_on p plan k i) (jobs p i) (slots_of_period i h))

  numbered : (t : ℕ) → t < span p → (slots t ≡ 0) ⊎ Numbered (task_count p) (slots t)
  numbered t l =
      ⊎_elim
      (λ idle. inl idle)
      (λ (s : OwedSlot p plan k (slots t)). inr (record { index = s.task; within = s.is_task; is_next = s.its_number }))
      (serves.idle_or_owed t l)

  served_row_is_busy_for_its_load : count (λ t. not (eqb (slots t) 0)) (span p) ≡ core_load p plan k
  unfolding core_load
  served_row_is_busy_for_its_load =
      sym (count_of_numbered slots (task_count p) (span p) numbered) ∙ sum_cong _ (load_on p plan k) (task_count p) slots_of_task

pub busy_slots_are_load : (p : Problem) → Periodic p → (plan table : List ℕ) → Drawing p plan table → (k : ℕ) → k < p.cores →
    count (λ t. not (eqb (slot_at p table k t) 0)) (span p) ≡ core_load p plan k
busy_slots_are_load p periodic plan table d k h =
    served_row_is_busy_for_its_load p periodic plan k (slot_at p table k) (drawing_serves_cores p periodic plan table d k h)
