-- What planning does, step by step, comes to its outcome.
use Rattle.std.specs.Prelude.{ℕ, ◌≤◌, ◌<◌, List, ◌≡◌, refl, length, take, Some, None, Result, Ok, Err, ok_or}
use Rattle.std.specs.Prelude as prelude
use Rattle.std.proofs.Math.Option.{Option, none, some}
use Rattle.std.proofs.Common.{sym, ap, subst, ◌∙◌, arith}
use Rattle.laws.specs.Lists.{onto}
use Rattle.instance.specs.Node.{Problem, task_count}
use Rattle.instance.specs.SiteFile.{problem_of}
use Rattle.refusals.specs.Refusals.{Reading, accepted}
use Rattle.refusals.specs.RoomLaws.{enough_room, no_room, front_of_onto}
use Rattle.refusals.specs.declared.Refusal.{Refusal}
use Rattle.plan_rules.specs.Plans.{plan_passes}
use Rattle.prices.specs.Prices.{price_of}
use Rattle.prices.specs.declared.amounts.Price.{Price}
use Rattle.tables.specs.Tables.{table_of, table_size}
use Rattle.planner.specs.BestChoices.{found_of, chosen_onto}
use Rattle.planner.specs.BestPlanLaws.{best_plan_passes}
use Rattle.planner.specs.EndingLaws.{best_plan_length}
use Rattle.planner.specs.Outcomes.{PlanOutcome, plan_refused, plan_answered, plan_outcome_of, plan_outcome}
use Rattle.planner.specs.Planned.{Planned}
use Rattle.planner.specs.PlannedLaws.{of_reading, plan_outcome-is_planned}
use Rattle.planner.specs.Planning.{best_plan}

abbrev pub plan_given : Result Price Refusal → List ℕ → List ℕ → PlanOutcome
plan_given answer plan table = record { answer = answer; plan = plan; table = table }

-- what choosing tells where it is taken with the refusal of an instance without a plan
pub told_cost : (r : prelude.Option ℕ) (refusal : Refusal) {total : ℕ} → Ok total ≡ ok_or r refusal → r ≡ Some total
told_cost None refusal e = let z : ◌≡◌ {A = ℕ} 0 1 = cc in absurd (omega arith)
told_cost (Some c) refusal e = cc

pub told_none : (r : prelude.Option ℕ) (refusal : Refusal) {q : Refusal} → Err q ≡ ok_or r refusal → (r ≡ None) × (q ≡ refusal)
told_none None refusal e = (refl, cc)
told_none (Some c) refusal e = let z : ◌≡◌ {A = ℕ} 0 1 = cc in absurd (omega arith)

-- what is left to do with a plan buffer once its first n choices are chosen: table and price of these
abbrev pub plan_from : Problem → ℕ → List ℕ → prelude.Option ℕ → List ℕ → PlanOutcome
plan_from p n table None plan = plan_refused Refusal.NoPlan plan table
plan_from p n table (Some c) plan =
    let chosen = take n plan in plan_given (Ok (price_of p chosen)) plan (onto (table_of p chosen) table)

-- what the contract of planning says of an answer and of the buffers after it
pub given_outcome_is_promised : (words plan table : List ℕ) (answer : Result Price Refusal) (plan_after table_after : List ℕ) →
    plan_given answer plan_after table_after ≡ plan_outcome words plan table →
    let o = plan_outcome words plan table in
    (answer ≡ o.answer)
    × ((plan_after ≡ o.plan) × ((table_after ≡ o.table) × Planned words plan table answer plan_after table_after))
given_outcome_is_promised words plan table answer plan_after table_after e = (
  ap (λ (o : PlanOutcome). o.answer) e,
  (
    ap (λ (o : PlanOutcome). o.plan) e,
    (
      ap (λ (o : PlanOutcome). o.table) e,
      subst (λ (o : PlanOutcome). Planned words plan table o.answer o.plan o.table) (sym e)
          (plan_outcome-is_planned words plan table),
    ),
  ),
)

pub given_reading : (words plan table : List ℕ) {reading : Reading Problem} {given : PlanOutcome} → problem_of words ≡ reading →
    given ≡ plan_outcome_of reading plan table → given ≡ plan_outcome words plan table
given_reading words plan table e given = given ∙ sym (of_reading words plan table e)

module _ (p : Problem) (n : ℕ) (is_count : n ≡ task_count p) (plan : List ℕ) where
  pub chosen_passes : (r : prelude.Option ℕ) (after : List ℕ) {total : ℕ} → r ≡ found_of p (best_plan p) → after ≡ chosen_onto (best_plan p) plan →
      r ≡ Some total → plan_passes p (take n after) ≡ accepted
  chosen_passes r after {total} found chosen cheapest = rw chosen (go (best_plan p) refl (sym found ∙ cheapest))
    where
      go : (best : Option (List ℕ)) → best_plan p ≡ best → found_of p best ≡ Some total →
          plan_passes p (take n (chosen_onto best plan)) ≡ accepted
      go none same other = let z : ◌≡◌ {A = ℕ} 0 1 = cc in absurd (omega arith)
      go (some best) same cheapest = rw (is_count, front_of_onto best plan (best_plan_length p same)) (best_plan_passes p same)

  module _ (table : List ℕ) where
    pub short_plan_outcome : length plan < n → plan_refused (Refusal.ShortBuffer n) plan table ≡ plan_outcome_of (Ok p) plan table
    short_plan_outcome short = rw (is_count, no_room (task_count p) plan (omega arith)) refl

    module _ (plan_room : n ≤ length plan) where
      pub short_table_outcome : (size : ℕ) → size ≡ table_size p → length table < size →
          plan_refused (Refusal.ShortBuffer size) plan table ≡ plan_outcome_of (Ok p) plan table
      short_table_outcome size is_size short =
          rw (is_size, enough_room (task_count p) plan (omega arith), no_room (table_size p) table (omega arith)) refl

      pub chosen_outcome : (r : prelude.Option ℕ) (after : List ℕ) → r ≡ found_of p (best_plan p) → after ≡ chosen_onto (best_plan p) plan →
          table_size p ≤ length table → plan_from p n table r after ≡ plan_outcome_of (Ok p) plan table
      chosen_outcome r after found chosen table_room =
          rw (found, chosen, enough_room (task_count p) plan (omega arith), enough_room (table_size p) table table_room)
          (go (best_plan p) refl)
        where
          go : (best : Option (List ℕ)) → best_plan p ≡ best →
              plan_from p n table (found_of p best) (chosen_onto best plan) ≡ plan_answered p best plan table
          go none same = refl
          go (some best) same = rw (is_count, front_of_onto best plan (best_plan_length p same)) refl
