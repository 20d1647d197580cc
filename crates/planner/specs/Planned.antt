-- What planning promises, for every list of words and whatever buffers are lent: document 01's refusals in their order,
-- and demand 3.
use Rattle.refusals.specs.Refusals.{accepted}
use Rattle.std.specs.Prelude.{ℕ, ◌≤◌, ◌<◌, List, ◌↔◌, ◌⊎◌, ◌≡◌, length, take, drop, Result, Ok, Err}
use Rattle.instance.specs.Node.{Problem, task_count}
use Rattle.instance.specs.SiteFile.{problem_of}
use Rattle.refusals.specs.declared.Refusal.{Refusal}
use Rattle.refusals.specs.declared.Refusal.TheVariants.{NoPlan, ShortBuffer}
use Rattle.checks.specs.Checks.{check}
use Rattle.drawings.specs.Drawings.{Drawing}
use Rattle.prices.specs.Prices.{cost, price_of}
use Rattle.prices.specs.declared.amounts.Price.{Price}
use Rattle.drawings.specs.RepeatedTables.{ServesForEver}
use Rattle.tables.specs.Tables.{table_of, table_size}
use Rattle.assignment.specs.Assignment.{Before}
use Rattle.planner.specs.Endings.{PlanningEnds}

-- "no drawing for that instance exists"
abbrev pub NoDrawing : Problem → Type 0
NoDrawing p = (plan table : List ℕ) → Drawing p plan table → ⊥

pub record BestDrawing (p : Problem) (plan table : List ℕ) : Type 0 where
  -- "a plan that with its table is itself a drawing"
  pub is_drawing : Drawing p plan table
  -- "These are the choices and tables that pass the check."
  pub passes_check : check p plan table ≡ accepted
  -- "every other drawing for that instance, whatever its choices and whatever its table, costs at least as much"
  pub no_drawing_cheaper : (other slots : List ℕ) → Drawing p other slots → cost p plan ≤ cost p other
  -- "among equal costs the one whose first differing choice, in task order, is smaller"
  pub first_of_equals : (other slots : List ℕ) → Drawing p other slots → cost p plan ≡ cost p other →
      (plan ≡ other) ⊎ Before plan other
  -- "Planning writes that plan and its table"
  pub its_table : table ≡ table_of p plan
  -- "repeated span after span without end, gives every job of a kept task, however late its release, exactly its ticks on its
  -- core between release and deadline"
  pub for_ever : ServesForEver p plan table

-- Demand 3 of an answer, and of the plan and the table that were written with it
pub record Optimal (p : Problem) (answer : Result Price Refusal) (plan table : List ℕ) : Type 0 where
  -- "no plan" exactly where there is no drawing
  pub no_plan : (answer ≡ Err NoPlan) ↔ NoDrawing p
  -- "the cost it returns is that plan's cost", with energy and penalty
  pub otherwise : (answer ≡ Err NoPlan → ⊥) →
      (answer ≡ Ok (price_of p plan)) × BestDrawing p plan table

-- `plan` and `table` are what the lent buffers held before the call.
pub record Planned (words plan table : List ℕ) (answer : Result Price Refusal) (plan_after table_after : List ℕ) : Type 0 where
  -- "of several short ones, the plan's before the table's .. 5 comes last"
  pub ends : PlanningEnds words plan table answer plan_after table_after
  -- "words are taken from the front, each tested for 2, 3, 4"
  pub not_read : (r : Refusal) → problem_of words ≡ Err r → answer ≡ Err r
  -- "then 6 .. of several short ones, the plan's before the table's"
  pub plan_too_short : (p : Problem) → problem_of words ≡ Ok p → length plan < task_count p →
      answer ≡ Err (ShortBuffer (task_count p))
  pub table_too_short : (p : Problem) → problem_of words ≡ Ok p → task_count p ≤ length plan →
      length table < table_size p → answer ≡ Err (ShortBuffer (table_size p))
  -- "5 comes last": demand 3 of the fronts of the buffers
  pub optimal : (p : Problem) → problem_of words ≡ Ok p → task_count p ≤ length plan → table_size p ≤ length table →
      Optimal p answer (take (task_count p) plan_after) (take (table_size p) table_after)
  -- "Every refusal leaves all lent buffers unchanged."
  pub refused_unchanged : (r : Refusal) → answer ≡ Err r → (plan_after ≡ plan) × (table_after ≡ table)
  -- "An accepted call writes only the words or bytes its result needs, from the front of each buffer."
  pub rest_unchanged : (p : Problem) → problem_of words ≡ Ok p →
      (drop (task_count p) plan_after ≡ drop (task_count p) plan) × (drop (table_size p) table_after ≡ drop (table_size p) table)
  pub same_lengths : (length plan_after ≡ length plan) × (length table_after ≡ length table)
