-- How planning ends, as demand 1 has it.
use Rattle.refusals.specs.declared.Refusal.{Refusal}
use Rattle.std.specs.Prelude.{ℕ, List, [], ◌∷◌, Result, Err}
use Rattle.std.proofs.Math.Option.{Option, none, some}
use Rattle.refusals.specs.Endings.{lent, Ends, read_then, needed_for}
use Rattle.instance.specs.Node.{task_count}
use Rattle.refusals.specs.Refusals.{room, ◌and_then◌, Verdict, accepted, verdict_of}
use Rattle.instance.specs.SiteFile.{problem_of}
use Rattle.refusals.specs.declared.Refusal.TheVariants.{NoPlan}
use Rattle.tables.specs.Tables.{table_size}
use Rattle.planner.specs.Planning.{best_plan}
use Rattle.prices.specs.declared.amounts.Price.{Price}

-- 5: "no plan keeps every task that may not be refused with all cores fitting"
abbrev pub plan_found : Option (List ℕ) → Verdict
plan_found none = Err NoPlan
plan_found (some plan) = accepted

-- "of several short ones, the plan's before the table's .. 5 comes last"
abbrev pub PlanningEnds : List ℕ → List ℕ → List ℕ → Result Price Refusal → List ℕ → List ℕ → Type 0
PlanningEnds words plan table answer plan_after table_after =
    let reading = problem_of words in
    Ends
    (read_then reading (λ p. (room (task_count p) plan and_then room (table_size p) table) and_then plan_found (best_plan p)))
    (2 ∷ 3 ∷ 4 ∷ 6 ∷ 5 ∷ [])
    (lent (needed_for task_count reading) plan plan_after ∷ lent (needed_for table_size reading) table table_after ∷ [])
    (verdict_of answer)
