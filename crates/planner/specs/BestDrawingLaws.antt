-- The answered plan, with its table, is the best drawing, and none is answered exactly where no drawing exists.
use Rattle.refusals.specs.Refusals.{accepted}
use Rattle.std.specs.Prelude.{ℕ, List, ◌↔◌, ◌≡◌, refl, length}
use Rattle.std.proofs.Common.{⊎_elim, arith}
use Rattle.std.proofs.Math.Option.{none, some}
use Rattle.instance.specs.Node.{Problem, task_count}
use Rattle.drawings.specs.Drawings.{Drawing}
use Rattle.drawings.specs.FitLaws.{passing_table_passes, drawn_plan_passes, passing_plan_is_drawn}
use Rattle.tables.specs.Periods.{Periodic}
use Rattle.plan_rules.specs.Plans.{plan_passes}
use Rattle.drawings.specs.RepeatedTableLaws.{drawing_serves_for_ever}
use Rattle.tables.specs.Tables.{table_of}
use Rattle.planner.specs.BestPlanLaws.{choice_count, best_plan_is_best, best_plan_passes, no_best_plan, none_is_none}
use Rattle.planner.specs.CheapestLaws.{NoWorsePlan}
use Rattle.planner.specs.CostLaws.{cost_is_total}
use Rattle.planner.specs.OptionsLaws.{passing_is_allowed}
use Rattle.offers.specs.OptionsOf.{options_of}
use Rattle.planner.specs.Planned.{NoDrawing, BestDrawing}
use Rattle.planner.specs.Planning.{best_plan}

module _ (p : Problem) (periodic : Periodic p) where
  pub no_plan_iff_no_drawing : (best_plan p ≡ none) ↔ NoDrawing p
  no_plan_iff_no_drawing = (
    λ no_plan plan table d. no_best_plan p no_plan plan ((passing_is_allowed p plan).0 (drawn_plan_passes p periodic plan d)),
    λ no_drawing.
        none_is_none p (λ plan allowed.
        no_drawing plan (table_of p plan) (passing_plan_is_drawn p periodic plan ((passing_is_allowed p plan).1 allowed))),
  )

  module _ (plan : List ℕ) (answered : best_plan p ≡ some plan) where
    passes : plan_passes p plan ≡ accepted
    passes = best_plan_passes p answered

    count : (plan : List ℕ) → plan_passes p plan ≡ accepted → length plan ≡ task_count p
    count plan passes = choice_count p ((passing_is_allowed p plan).0 passes)

    no_worse_than_drawings : {other slots : List ℕ} → Drawing p other slots → NoWorsePlan p plan other
    unfolding options_of
    no_worse_than_drawings {other} d =
        let other_passes = drawn_plan_passes p periodic other d in
        let no_worse = (best_plan_is_best p answered).no_worse other ((passing_is_allowed p other).0 other_passes) in
        rw (cost_is_total p plan (count plan passes), cost_is_total p other (count other other_passes)) no_worse

    pub answered_is_best_drawing : BestDrawing p plan (table_of p plan)
    answered_is_best_drawing =
        let d = passing_plan_is_drawn p periodic plan passes in
        record {
          is_drawing = d;
          passes_check = passing_table_passes p periodic plan passes;
          no_drawing_cheaper = λ other slots rival. ⊎_elim (λ cheaper. omega arith) (λ equal. omega arith) (no_worse_than_drawings rival);
          first_of_equals = λ other slots rival same.
              ⊎_elim (λ cheaper. absurd (omega arith)) (λ equal. equal.1) (no_worse_than_drawings rival);
          its_table = refl;
          for_ever = drawing_serves_for_ever p periodic plan (table_of p plan) d;
        }
