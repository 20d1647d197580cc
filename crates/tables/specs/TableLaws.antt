-- The table of a plan is its cores' rows: how long it is, and what each slot shows.
use Rattle.std.specs.Prelude.{ℕ, ◌*◌, ◌<◌, List, ◌≡◌, length}
use Rattle.std.proofs.Common.{◌∙◌}
use Rattle.laws.specs.JoinedLaws.{length-list_of, get_d-list_of, length_joined, get_d-joined}
use Rattle.instance.specs.Node.{Problem, span}
use Rattle.dispatch.specs.Rows.{slot_of, row}
use Rattle.plan_rules.specs.CoreOfPlan.{core_tasks}
use Rattle.tables.specs.Tables.{table_of, slot_at}

module _ (p : Problem) (plan : List ℕ) where
  pub row_length : (k : ℕ) → length (row (core_tasks p plan k) (span p)) ≡ span p
  unfolding row
  row_length k = length-list_of (slot_of (core_tasks p plan k)) (span p)

  pub length-table_of : length (table_of p plan) ≡ p.cores * span p
  unfolding table_of
  length-table_of = length_joined (λ k. row (core_tasks p plan k) (span p)) (span p) p.cores (λ k h. row_length k)

  pub slot_at-table_of : (k t : ℕ) → k < p.cores → t < span p →
      slot_at p (table_of p plan) k t ≡ slot_of (core_tasks p plan k) t
  unfolding table_of slot_at row
  slot_at-table_of k t h l =
      get_d-joined (λ k. row (core_tasks p plan k) (span p)) (span p) 0 p.cores (λ k h. row_length k) k t h l
      ∙ get_d-list_of (slot_of (core_tasks p plan k)) (span p) t 0 l
