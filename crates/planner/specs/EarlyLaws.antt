-- Whether a task is due before its period ends, one task after the other.
use Rattle.std.specs.Prelude.{ℕ, ◌+◌, ◌≤◌, ◌<◌, ◌≡◌}
use Rattle.std.proofs.Common.{arith}
use Rattle.laws.specs.Below.{below_suc}
use Rattle.instance.specs.Node.{Problem, task_at, task_count}
use Rattle.instance.specs.Valid.{Valid, DueAtPeriodEnd}

-- none of the first n tasks
pub record NoneEarly (p : Problem) (n : ℕ) : Type 0 where
  pub each : (i : ℕ) → i < n → (task_at p i).deadline ≡ (task_at p i).period

pub none_so_far : (p : Problem) → NoneEarly p 0
none_so_far p = record { each = λ i none. absurd (omega arith) }

pub one_more : {p : Problem} {n : ℕ} → Valid p → n < task_count p → (task_at p n).period ≤ (task_at p n).deadline → NoneEarly p n → NoneEarly p (n + 1)
one_more {p} {n} v is_task late before =
    record {
      each = λ i l.
          below_suc (λ i. (task_at p i).deadline ≡ (task_at p i).period) n before.each (omega (arith, (v.task n is_task).deadline.at_most)) i (omega arith);
    }

pub all_at_period_end : {p : Problem} {n : ℕ} → task_count p ≤ n → NoneEarly p n → DueAtPeriodEnd p.tasks
all_at_period_end all none = record { each = λ i l. none.each i (omega arith) }
