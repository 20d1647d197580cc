-- The outcome of planning keeps every promise of `Planned`.
use Rattle.std.specs.Prelude.{ℕ, List, ◌↔◌, ◌≡◌, refl, take, Ok, Err}
use mathlib.Core.Logic.Iff
use Rattle.std.proofs.Math.Option.{Option, none, some}
use Rattle.std.proofs.Math.Path.{ap}
use Rattle.std.proofs.Common.{◌∙◌, arith}
use Rattle.refusals.specs.EndingLaws.{refused_leaves, front_at_most}
use Rattle.instance.specs.Node.{Problem, task_count}
use Rattle.refusals.specs.Refusals.{room, ◌and_then◌, Verdict, accepted, verdict_of}
use Rattle.refusals.specs.RoomLaws.{enough_room, no_room, front_of_onto}
use Rattle.instance.specs.SiteFile.{problem_of}
use Rattle.instance.specs.SiteFileLaws.{accepted_is_valid}
use Rattle.refusals.specs.declared.Refusal.TheVariants.{NoPlan, ShortBuffer}
use Rattle.tables.specs.Periods.{Periodic, valid_is_periodic}
use Rattle.prices.specs.Prices.{price_of}
use Rattle.tables.specs.TableLaws.{length-table_of}
use Rattle.tables.specs.Tables.{table_of, table_size}
use Rattle.planner.specs.BestDrawingLaws.{no_plan_iff_no_drawing, answered_is_best_drawing}
use Rattle.planner.specs.EndingLaws.{best_plan_length, planning_ends}
use Rattle.planner.specs.Outcomes.{PlanOutcome, plan_answered, plan_where, plan_outcome_of, plan_outcome}
use Rattle.planner.specs.Planned.{BestDrawing, Optimal, Planned}
use Rattle.planner.specs.Planning.{best_plan}

-- the answer is "no plan" exactly when there is no best plan
answers_no_plan : (p : Problem) (best : Option (List ℕ)) (plan table : List ℕ) →
    ((plan_answered p best plan table).answer ≡ Err NoPlan) ↔ (best ≡ none)
answers_no_plan p none plan table = (λ e. refl, λ e. refl)
answers_no_plan p (some best) plan table = (
  λ e. let z : ◌≡◌ {A = ℕ} 0 1 = cc in absurd (omega arith),
  λ e. let z : ◌≡◌ {A = ℕ} 0 1 = cc in absurd (omega arith),
)

module _ (p : Problem) (periodic : Periodic p) (plan table : List ℕ) where
  answered_is_optimal :
      let o = plan_answered p (best_plan p) plan table in
      Optimal p o.answer (take (task_count p) o.plan) (take (table_size p) o.table)
  answered_is_optimal =
      record {
        no_plan = Iff.trans (answers_no_plan p (best_plan p) plan table) (no_plan_iff_no_drawing p periodic);
        otherwise = go (best_plan p) refl;
      }
    where
      go : (best : Option (List ℕ)) → best_plan p ≡ best →
          let o = plan_answered p best plan table in
          let plan_after = take (task_count p) o.plan in
          (o.answer ≡ Err NoPlan → ⊥) →
          (o.answer ≡ Ok (price_of p plan_after)) × BestDrawing p plan_after (take (table_size p) o.table)
      go none e other = absurd (other refl)
      go (some best) e other =
          rw (
            front_of_onto best plan (best_plan_length p e),
            front_of_onto (table_of p best) table (length-table_of p best),
          ) (refl, answered_is_best_drawing p periodic best e)

module _ (words plan table : List ℕ) where
  pub of_reading : {reading : _} → problem_of words ≡ reading → plan_outcome words plan table ≡ plan_outcome_of reading plan table
  unfolding plan_outcome
  of_reading e = ap (λ r. plan_outcome_of r plan table) e

  module _ (p : Problem) (read : problem_of words ≡ Ok p) where
    pub where_room : (v : Verdict) → room (task_count p) plan and_then room (table_size p) table ≡ v →
        plan_outcome words plan table ≡ plan_where v p plan table
    where_room v e = of_reading read ∙ ap (λ (v : Verdict). plan_where v p plan table) e

  pub plan_outcome-is_planned :
      let o = plan_outcome words plan table in Planned words plan table o.answer o.plan o.table
  plan_outcome-is_planned =
      let ends = planning_ends words plan table in
      let fronts = front_at_most ends.ending in
      record {
        ends = ends;
        not_read = λ r e. ap (λ (o : PlanOutcome). o.answer) (of_reading e);
        plan_too_short = λ p read short.
            ap (λ (o : PlanOutcome). o.answer) (where_room p read (Err (ShortBuffer (task_count p))) (rw (no_room (task_count p) plan short)));
        table_too_short = λ p read enough short.
            ap (λ (o : PlanOutcome). o.answer)
            (where_room p read (Err (ShortBuffer (table_size p))) (rw (enough_room (task_count p) plan enough, no_room (table_size p) table short)));
        optimal = λ p read enough enough_too.
            rw (where_room p read accepted (rw (enough_room (task_count p) plan enough, enough_room (table_size p) table enough_too)))
            (answered_is_optimal p (valid_is_periodic (accepted_is_valid words read)) plan table);
        refused_unchanged = λ r e.
            let same = refused_leaves ends.ending (ap verdict_of e) in (same.0.as_before, same.1.0.as_before);
        rest_unchanged = λ p read. (rw read at fronts.0.rest_as_before, rw read at fronts.1.0.rest_as_before);
        same_lengths = (fronts.0.same_length, fronts.1.0.same_length);
      }
