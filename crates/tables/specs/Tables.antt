-- The table of a plan: "The table has M × L bytes, core 1's L slots first."
use Rattle.std.specs.Prelude.{ℕ, ◌+◌, ◌*◌, List, get_or}
use Rattle.laws.specs.Lists.{joined}
use Rattle.instance.specs.Node.{Problem, span}
use Rattle.plan_rules.specs.CoreOfPlan.{core_tasks}
use Rattle.dispatch.specs.Rows.{row}

abbrev pub table_size : Problem → ℕ
table_size p = p.cores * span p

unfoldable pub table_of : Problem → List ℕ → List ℕ
table_of p plan = joined (λ k. row (core_tasks p plan k) (span p)) p.cores

-- the slot of core k at tick t of the span
unfoldable pub slot_at : Problem → List ℕ → ℕ → ℕ → ℕ
slot_at p table k t = get_or table (k * span p + t) 0
