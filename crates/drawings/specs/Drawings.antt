-- The paper's "Drawings, as demand 3 means them". The check, which is proved to pass exactly the drawings, reads choices,
-- windows and slots by the same definitions; but it counts a job's slots, which are listed here.
use Rattle.std.specs.Prelude.{ℕ, suc, ◌≤◌, ◌<◌, ◌*◌, ◌≡◌, ◌↔◌, ◌⊎◌, length}
use mathlib.Core.List.{List, [], ◌∷◌, Memᴰ}
use Rattle.instance.specs.Node.{Problem, task_count, span}
use Rattle.plan_rules.specs.Quantities.{choice_at, core_of, jobs, job_ticks}
use Rattle.plan_rules.specs.Windows.{release_of, due_of}
use Rattle.tables.specs.Tables.{slot_at}
use Rattle.plan_rules.specs.AllowedPlans.{AllowedPlan}

-- a list of numbers from `low` on that rises strictly
pub data Rising : ℕ → List ℕ → Type 0 where
  none : (low : ℕ) → Rising low []
  more : (low n : ℕ) (rest : List ℕ) → low ≤ n → Rising (suc n) rest → Rising low (n ∷ rest)

-- "exactly its ticks as slots with the task's number, from its release tick up to, but without, its due tick": those
-- ticks can be listed, and the list has that length
pub record ExactSlots (slots : ℕ → ℕ) (number release due ticks : ℕ) : Type 0 where
  pub at : List ℕ
  pub once_each : Rising release at
  pub all_and_only : (t : ℕ) → Memᴰ t at ↔ ((release ≤ t) × (t < due) × (slots t ≡ number))
  pub as_many : length at ≡ ticks

-- a slot of core k at tick t that is one of those of a job: of which task and which job
pub record JobSlot (p : Problem) (plan : List ℕ) (k t slot : ℕ) : Type 0 where
  pub task : ℕ
  pub job : ℕ
  pub is_task : task < task_count p
  pub is_job : job < jobs p task
  pub kept : choice_at plan task ≡ 0 → ⊥
  pub on_its_core : core_of p plan task ≡ k
  pub its_number : slot ≡ suc task
  pub released : release_of p task job ≤ t
  pub not_yet_due : t < due_of p task job

-- "a table of M × L slots. In its core's row, every job of a kept task released within the span has exactly its ticks as
-- slots .. Every other slot of the table is 0."
pub record DrawnTable (p : Problem) (plan table : List ℕ) : Type 0 where
  pub table_length : length table ≡ p.cores * span p
  pub jobs_served : (i j : ℕ) → i < task_count p → (choice_at plan i ≡ 0 → ⊥) → j < jobs p i →
      ExactSlots (slot_at p table (core_of p plan i)) (suc i) (release_of p i j) (due_of p i j) (job_ticks p plan i)
  pub others_idle : (k t : ℕ) → k < p.cores → t < span p →
      (slot_at p table k t ≡ 0) ⊎ JobSlot p plan k t (slot_at p table k t)

-- "A drawing for an instance is" such a list "with" such a table
pub record Drawing (p : Problem) (plan table : List ℕ) : Type 0 where
  pub allowed : AllowedPlan p plan
  pub drawn : DrawnTable p plan table
