-- Where the least cost rises by at most so much, so does what planning answers, and so does the cost of anyone's cheapest drawing.
use Rattle.std.specs.Prelude.{ℕ, ◌+◌, ◌≤◌, List, ◌↔◌, ◌≡◌, refl, length, Ok}
use mathlib.Core.Logic.Iff
use Rattle.std.proofs.Math.Option.{Option, none}
use Rattle.std.proofs.Common.{arith}
use Rattle.refusals.specs.Refusals.{accepted}
use Rattle.instance.specs.Node.{Problem, task_count}
use Rattle.instance.specs.SiteFile.{problem_of}
use Rattle.refusals.specs.RoomLaws.{enough_room}
use Rattle.prices.specs.Prices.{cost, price_of}
use Rattle.tables.specs.Periods.{Periodic}
use Rattle.tables.specs.Tables.{table_of, table_size}
use Rattle.drawings.specs.Drawings.{Drawing}
use Rattle.planner.specs.BestDrawingLaws.{no_plan_iff_no_drawing, answered_is_best_drawing}
use Rattle.planner.specs.Outcomes.{plan_answered, plan_outcome}
use Rattle.planner.specs.PlannedLaws.{where_room}
use Rattle.planner.specs.Planning.{best_plan}
use Rattle.penalties.specs.Penalties.{PlansRise, no_plans, plans, AnswersRise, CheapestDrawing, DrawingWithin, DrawingsRise}

-- of buffers that are long enough
plan_is_answered : (words : List ℕ) (p : Problem) → problem_of words ≡ Ok p → (plan table : List ℕ) →
    task_count p ≤ length plan → table_size p ≤ length table → plan_outcome words plan table ≡ plan_answered p (best_plan p) plan table
plan_is_answered words p read plan table plan_room table_room =
    where_room words plan table p read accepted (rw (enough_room (task_count p) plan plan_room, enough_room (table_size p) table table_room))

module _ (low high : Problem) (most : ℕ) where
  answered_rise : {a b : Option (List ℕ)} → PlansRise low high most a b → (plan table other slots : List ℕ) →
      AnswersRise most (plan_answered low a plan table).answer (plan_answered high b other slots).answer
  unfolding price_of
  answered_rise no_plans plan table other slots = AnswersRise.no_plans
  answered_rise (plans best best₂ rises) plan table other slots = AnswersRise.costs (price_of low best) (price_of high best₂) rises

  plans_or_none : {a b : Option (List ℕ)} → PlansRise low high most a b → (a ≡ none) ↔ (b ≡ none)
  plans_or_none no_plans = (λ e. refl, λ e. refl)
  plans_or_none (plans best best₂ rises) = (
    λ e. let z : ◌≡◌ {A = ℕ} 0 1 = cc in absurd (omega arith),
    λ e. let z : ◌≡◌ {A = ℕ} 0 1 = cc in absurd (omega arith),
  )

  module _ (rise : PlansRise low high most (best_plan low) (best_plan high)) where
    pub answers_rise : (low_words high_words : List ℕ) → problem_of low_words ≡ Ok low → problem_of high_words ≡ Ok high →
        (low_plan low_table high_plan high_table : List ℕ) →
        task_count low ≤ length low_plan → table_size low ≤ length low_table →
        task_count high ≤ length high_plan → table_size high ≤ length high_table →
        AnswersRise most (plan_outcome low_words low_plan low_table).answer (plan_outcome high_words high_plan high_table).answer
    answers_rise low_words high_words low_read high_read low_plan low_table high_plan high_table plan_room table_room plan_room₂ table_room₂ =
        rw (
          plan_is_answered low_words low low_read low_plan low_table plan_room table_room,
          plan_is_answered high_words high high_read high_plan high_table plan_room₂ table_room₂,
        ) (answered_rise rise low_plan low_table high_plan high_table)

    module _ (low_periodic : Periodic low) (high_periodic : Periodic high) where
      none_cheaper : (plan table other slots : List ℕ) → CheapestDrawing low plan table → Drawing high other slots →
          cost low plan ≤ cost high other
      none_cheaper plan table other slots cheapest rival = go rise refl refl
        where
          go : {a b : Option (List ℕ)} → PlansRise low high most a b → best_plan low ≡ a → best_plan high ≡ b →
              cost low plan ≤ cost high other
          go no_plans e e₂ = absurd ((no_plan_iff_no_drawing high high_periodic).0 e₂ other slots rival)
          go (plans best best₂ rises) e e₂ =
              omega (
                arith,
                cheapest.none_cheaper best (table_of low best) (answered_is_best_drawing low low_periodic best e).is_drawing,
                rises.no_smaller,
                (answered_is_best_drawing high high_periodic best₂ e₂).no_drawing_cheaper other slots rival,
              )

      one_within : (plan table : List ℕ) → CheapestDrawing low plan table → DrawingWithin high (cost low plan + most)
      one_within plan table cheapest = go rise refl refl
        where
          go : {a b : Option (List ℕ)} → PlansRise low high most a b → best_plan low ≡ a → best_plan high ≡ b →
              DrawingWithin high (cost low plan + most)
          go no_plans e e₂ = absurd ((no_plan_iff_no_drawing low low_periodic).0 e plan table cheapest.is_drawing)
          go (plans best best₂ rises) e e₂ =
              record {
                plan = best₂;
                table = table_of high best₂;
                is_drawing = (answered_is_best_drawing high high_periodic best₂ e₂).is_drawing;
                within = omega (
                  arith,
                  rises.larger_by_at_most,
                  (answered_is_best_drawing low low_periodic best e).no_drawing_cheaper plan table cheapest.is_drawing,
                );
              }

      pub drawings_rise : DrawingsRise low high most
      drawings_rise =
          record {
            both_or_neither =
                Iff.trans (Iff.symm (no_plan_iff_no_drawing low low_periodic))
                (Iff.trans (plans_or_none rise) (no_plan_iff_no_drawing high high_periodic));
            none_cheaper = none_cheaper;
            one_within = one_within;
          }
