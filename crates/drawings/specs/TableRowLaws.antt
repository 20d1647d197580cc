-- "A row depends on the span and that core's kept tasks only, never on another core's": of the tables of two plans, for one
-- problem or for two.
use Rattle.std.specs.Prelude.{ℕ, ◌<◌, Bool, true, List, ◌≡◌}
use Rattle.std.proofs.Common.{sym, ◌∙◌}
use Rattle.instance.specs.Node.{Problem, task_count, task_at, span}
use Rattle.edf.specs.Demand.{KeptAlsoBy}
use Rattle.plan_rules.specs.Quantities.{keeps, job_ticks, ticks_on}
use Rattle.edf.specs.SchedulingTheorems.{row_depends_on_kept_tasks}
use Rattle.plan_rules.specs.KeepsLaws.{kept_where_ticks}
use Rattle.tables.specs.TableLaws.{slot_at-table_of}
use Rattle.plan_rules.specs.CoreOfPlan.{core_tasks}
use Rattle.plan_rules.specs.Windows.{window}
use Rattle.tables.specs.Tables.{table_of, slot_at}

-- a plan for a problem, and one of its cores
pub record CorePlan : Type 0 where
  pub problem : Problem
  pub plan : List ℕ
  pub core : ℕ

abbrev kept_there : CorePlan → ℕ → Bool
kept_there a i = keeps a.problem a.plan a.core i

-- a task that the second keeps on its core as the first does on its own
pub record SameKeptTask (a b : CorePlan) (i : ℕ) : Type 0 where
  pub is_task : i < task_count b.problem
  pub kept : kept_there b i ≡ true
  pub same_period : (task_at a.problem i).period ≡ (task_at b.problem i).period
  pub same_window : window (task_at a.problem i) ≡ window (task_at b.problem i)
  pub same_ticks : job_ticks a.problem a.plan i ≡ job_ticks b.problem b.plan i

pub record KeepsAlso (b a : CorePlan) : Type 0 where
  pub task : (i : ℕ) → i < task_count a.problem → kept_there a i ≡ true → SameKeptTask a b i

module _ (a b : CorePlan) where
  kept_also : KeepsAlso b a →
      KeptAlsoBy (core_tasks b.problem b.plan b.core) (core_tasks a.problem a.plan a.core)
  unfolding core_tasks ticks_on
  kept_also also =
      record {
        kept_task = λ i l some.
            let kept = kept_where_ticks a.problem a.plan a.core i some in
            let same = also.task i l kept in
            record {
              is_task = same.is_task;
              same_period = same.same_period;
              same_window = same.same_window;
              same_ticks = rw (kept, same.kept) same.same_ticks;
            };
      }

pub same_kept_tasks_same_row : (a b : CorePlan) → span a.problem ≡ span b.problem → KeepsAlso b a → KeepsAlso a b →
    a.core < a.problem.cores → b.core < b.problem.cores → (t : ℕ) → t < span a.problem →
    slot_at a.problem (table_of a.problem a.plan) a.core t
    ≡ slot_at b.problem (table_of b.problem b.plan) b.core t
same_kept_tasks_same_row a b same_span also also₂ h h₂ t l =
    slot_at-table_of a.problem a.plan a.core t h l
    ∙ row_depends_on_kept_tasks _ _ (kept_also a b also) (kept_also b a also₂) t
    ∙ sym (slot_at-table_of b.problem b.plan b.core t h₂ (rw same_span at l))
