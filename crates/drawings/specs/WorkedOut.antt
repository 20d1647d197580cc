-- The table of a plan in the paper's words, with no dispatching: "The row of a core is worked out from tick 0: among jobs
-- released and not finished, the earliest due runs; of equal ones, the lower task number."
use Rattle.std.specs.Prelude.{ℕ, suc, ◌*◌, ◌≤◌, ◌<◌, List, ◌≡◌, length}
use Rattle.instance.specs.Node.{Problem, task_count, span}
use Rattle.edf.specs.Demand.{slots_given}
use Rattle.plan_rules.specs.Quantities.{ticks_on}
use Rattle.plan_rules.specs.Windows.{release_of, due_of}
use Rattle.tables.specs.Tables.{slot_at}

-- job j of task i on core k at tick t: "released and not finished". It is finished once the row has given the task's jobs
-- up to and with j all their ticks. A task that the plan does not keep on this core has no ticks there, so that no job of
-- it is ever unfinished.
pub record Pending (p : Problem) (plan : List ℕ) (k : ℕ) (slots : ℕ → ℕ) (t i j : ℕ) : Type 0 where
  pub is_task : i < task_count p
  pub released : release_of p i j ≤ t
  pub not_finished : slots_given slots i t < suc j * ticks_on p plan k i

-- what the row shows at tick t by the rule: 0 where no job is pending; else the number of the task of a pending job, such
-- that no pending job is due earlier, and none of a lower task number is due at the same tick
pub data EarliestDueRuns (p : Problem) (plan : List ℕ) (k : ℕ) (slots : ℕ → ℕ) (t : ℕ) : ℕ → Type 0 where
  idle : ((i j : ℕ) → Pending p plan k slots t i j → ⊥) → EarliestDueRuns p plan k slots t 0
  runs : (i j : ℕ) → Pending p plan k slots t i j →
      ((i₂ j₂ : ℕ) → Pending p plan k slots t i₂ j₂ → due_of p i j ≤ due_of p i₂ j₂) →
      ((i₂ j₂ : ℕ) → Pending p plan k slots t i₂ j₂ → due_of p i₂ j₂ ≡ due_of p i j → i ≤ i₂) →
      EarliestDueRuns p plan k slots t (suc i)

pub record WorkedOut (p : Problem) (plan table : List ℕ) : Type 0 where
  pub table_length : length table ≡ p.cores * span p
  pub by_rule : (k t : ℕ) → k < p.cores → t < span p →
      EarliestDueRuns p plan k (slot_at p table k) t (slot_at p table k t)
