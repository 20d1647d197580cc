-- "Repeated, a row shows at tick t, however large, its slot t modulo L, slots counted from 0."
use Rattle.std.specs.Prelude.{ℕ, suc, ◌%◌, ◌<◌, List, ◌≡◌}
use Rattle.instance.specs.Node.{Problem, task_count, span}
use Rattle.drawings.specs.Drawings.{ExactSlots}
use Rattle.plan_rules.specs.Quantities.{choice_at, core_of, job_ticks}
use Rattle.plan_rules.specs.Windows.{release_of, due_of}
use Rattle.tables.specs.Tables.{slot_at}

unfoldable pub shown_at : Problem → List ℕ → ℕ → ℕ → ℕ
shown_at p table k t = slot_at p table k (t % span p)

-- the table, "repeated span after span without end, gives every job of a kept task, however late its release, exactly its
-- ticks on its core between release and deadline": as slots with the task's number in its core's row, from its release tick
-- up to, but without, its due tick
pub record ServesForEver (p : Problem) (plan table : List ℕ) : Type 0 where
  pub every_job : (i j : ℕ) → i < task_count p → (choice_at plan i ≡ 0 → ⊥) →
      ExactSlots (shown_at p table (core_of p plan i)) (suc i) (release_of p i j) (due_of p i j) (job_ticks p plan i)
