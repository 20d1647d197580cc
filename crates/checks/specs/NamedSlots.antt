-- The tables that 9 lets pass: as long as they must be, and with no slot that names another task than one kept on its core.
use Rattle.std.specs.Prelude.{ℕ, suc, ◌*◌, ◌<◌, List, ◌⊎◌, ◌≡◌, length}
use Rattle.instance.specs.Node.{Problem, span}
use Rattle.plan_rules.specs.Quantities.{choice_at, core_of}
use Rattle.tables.specs.Tables.{slot_at}

-- a slot that names a task that the plan keeps on core k
pub record KeptSlot (p : Problem) (plan : List ℕ) (k slot : ℕ) : Type 0 where
  pub task : ℕ
  pub its_number : slot ≡ suc task
  pub kept : choice_at plan task ≡ 0 → ⊥
  pub on_its_core : core_of p plan task ≡ k

-- "a table of M × L slots", each 0 or naming a kept task of its core
pub record NamedSlots (p : Problem) (plan table : List ℕ) : Type 0 where
  pub table_length : length table ≡ p.cores * span p
  pub idle_or_kept : (k t : ℕ) → k < p.cores → t < span p →
      (slot_at p table k t ≡ 0) ⊎ KeptSlot p plan k (slot_at p table k t)
