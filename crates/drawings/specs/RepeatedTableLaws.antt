-- A drawing's table, repeated without end, serves every job.
use Rattle.std.specs.Prelude.{ℕ, suc, List, refl}
use Rattle.std.proofs.Common.{◌∙◌}
use Rattle.instance.specs.Node.{Problem, task_at, span}
use Rattle.drawings.specs.Drawings.{Drawing}
use Rattle.drawings.specs.ExactSlotLaws.{count_is_exact}
use Rattle.drawings.specs.FitLaws.{windows_well_formed, periods_whole, row_serves_core_tasks}
use Rattle.tables.specs.Periods.{Periodic}
use Rattle.plan_rules.specs.Quantities.{core_of, job_ticks}
use Rattle.drawings.specs.RepeatedTables.{shown_at, ServesForEver}
use Rattle.edf.specs.SchedulingTheorems.{repeated_row_serves_for_ever}
use Rattle.plan_rules.specs.KeepsLaws.{ticks_where_kept, core_of_kept}
use Rattle.drawings.specs.ServedRowLaws.{drawing_serves_cores}
use Rattle.plan_rules.specs.CoreOfPlan.{core_tasks}
use Rattle.tables.specs.Tables.{slot_at}
use Rattle.plan_rules.specs.Windows.{release_of, window}

pub drawing_serves_for_ever : (p : Problem) → Periodic p → (plan table : List ℕ) → Drawing p plan table → ServesForEver p plan table
unfolding core_tasks shown_at
drawing_serves_for_ever p periodic plan table d =
    record {
      every_job = λ i j h kept.
          let k = core_of p plan i in
          let is_core = core_of_kept p plan d.allowed i h kept in
          let serves = row_serves_core_tasks p periodic plan k (slot_at p table k) (drawing_serves_cores p periodic plan table d k is_core) in
          (count_is_exact (shown_at p table k) (suc i) (release_of p i j) (window (task_at p i)) (job_ticks p plan i)).0
          (repeated_row_serves_for_ever (core_tasks p plan k) (span p) (slot_at p table k)
          (windows_well_formed p periodic plan k) (periods_whole p periodic plan k) serves i j h
          ∙ ticks_where_kept p plan k i kept refl);
    }
