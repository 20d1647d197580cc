-- A row that serves a core: each job of each task has exactly the ticks that the plan has for it there, in its window.
use Rattle.std.specs.Prelude.{ℕ, suc, ◌+◌, ◌≤◌, ◌<◌, List, ◌⊎◌, ◌≡◌, eqb}
use Rattle.laws.specs.Search.{count}
use Rattle.instance.specs.Node.{Problem, task_count, task_at, span}
use Rattle.plan_rules.specs.Quantities.{jobs, ticks_on}
use Rattle.plan_rules.specs.Windows.{release_of, due_of, window}

-- a task with ticks on core k, whose number the slot holds
pub record OwedSlot (p : Problem) (plan : List ℕ) (k slot : ℕ) : Type 0 where
  pub task : ℕ
  pub is_task : task < task_count p
  pub its_number : slot ≡ suc task
  pub has_ticks : 0 < ticks_on p plan k task

-- no slot of task i between the due tick of its job j and the next release
abbrev pub NoneLate : Problem → (ℕ → ℕ) → ℕ → ℕ → Type 0
NoneLate p slots i j = (t : ℕ) → due_of p i j ≤ t → t < release_of p i (suc j) → slots t ≡ suc i → ⊥

-- over the span, the row of core k gives each job exactly its ticks there, none where the plan does not keep the task on
-- that core, and shows nothing else
pub record RowServes (p : Problem) (plan : List ℕ) (k : ℕ) (slots : ℕ → ℕ) : Type 0 where
  pub each_job : (i j : ℕ) → i < task_count p → j < jobs p i →
      count (λ x. eqb (slots (release_of p i j + x)) (suc i)) (window (task_at p i)) ≡ ticks_on p plan k i
  pub idle_or_owed : (t : ℕ) → t < span p → (slots t ≡ 0) ⊎ OwedSlot p plan k (slots t)
  pub none_late : (i j : ℕ) → i < task_count p → j < jobs p i → NoneLate p slots i j
