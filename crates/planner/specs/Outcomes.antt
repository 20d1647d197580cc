-- The whole outcome of planning, for every list of words: the answer, and what each lent buffer holds afterwards.
-- "Order: .. 2, 3, 4; then 6 .. of several short ones, the plan's before the table's .. 5 comes last."
use Rattle.std.specs.Prelude.{ℕ, List, Result, Ok, Err}
use Rattle.std.proofs.Math.Option.{Option, none, some}
use Rattle.laws.specs.Lists.{onto}
use Rattle.instance.specs.Node.{Problem, task_count}
use Rattle.refusals.specs.Refusals.{Reading, room, ◌and_then◌, Verdict}
use Rattle.instance.specs.SiteFile.{problem_of}
use Rattle.refusals.specs.declared.Refusal.{Refusal}
use Rattle.refusals.specs.declared.Refusal.TheVariants.{NoPlan}
use Rattle.prices.specs.Prices.{price_of}
use Rattle.prices.specs.declared.amounts.Price.{Price}
use Rattle.tables.specs.Tables.{table_of, table_size}
use Rattle.planner.specs.Planning.{best_plan}

-- "Planning writes that plan and its table, and returns energy, penalty and cost."
pub record PlanOutcome : Type 0 where
  pub answer : Result Price Refusal
  pub plan : List ℕ
  pub table : List ℕ

abbrev pub plan_refused : Refusal → List ℕ → List ℕ → PlanOutcome
plan_refused r plan table = record { answer = Err r; plan = plan; table = table }

abbrev pub plan_answered : Problem → Option (List ℕ) → List ℕ → List ℕ → PlanOutcome
plan_answered p none plan table = plan_refused NoPlan plan table
plan_answered p (some best) plan table =
    record { answer = Ok (price_of p best); plan = onto best plan; table = onto (table_of p best) table }

abbrev pub plan_where : Verdict → Problem → List ℕ → List ℕ → PlanOutcome
plan_where (Err r) p plan table = plan_refused r plan table
plan_where (Ok tt) p plan table = plan_answered p (best_plan p) plan table

abbrev pub plan_outcome_of : Reading Problem → List ℕ → List ℕ → PlanOutcome
plan_outcome_of (Err r) plan table = plan_refused r plan table
plan_outcome_of (Ok p) plan table =
    plan_where (room (task_count p) plan and_then room (table_size p) table) p plan table

unfoldable pub plan_outcome : List ℕ → List ℕ → List ℕ → PlanOutcome
plan_outcome words plan table = plan_outcome_of (problem_of words) plan table
