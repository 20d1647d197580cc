-- The choices of a drawing, as the paper's "Drawings, as demand 3 means them" has them: those that are not refused under 7.
use Rattle.std.specs.Prelude.{ℕ, ◌≤◌, ◌<◌, ◌*◌, ◌≡◌, List, length}
use Rattle.ranges.specs.Limits.{may_not_be_refused}
use Rattle.instance.specs.Node.{Problem, level_count, task_count, task_at}
use Rattle.plan_rules.specs.Quantities.{choice_at}

-- "a list of one choice per task, each from 0 to M × H and none 0 for a task that may not be refused"
pub record AllowedPlan (p : Problem) (plan : List ℕ) : Type 0 where
  pub one_choice_per_task : length plan ≡ task_count p
  pub choices_in_range : (i : ℕ) → i < task_count p → choice_at plan i ≤ p.cores * level_count p
  pub must_tasks_kept : (i : ℕ) → i < task_count p → (task_at p i).penalty ≡ may_not_be_refused → choice_at plan i ≡ 0 → ⊥
