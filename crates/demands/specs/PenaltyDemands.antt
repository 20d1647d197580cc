-- Document 02 (h), "How far one penalty can move the bill": "For two accepted instances that differ in one task's penalty, both
-- between 1 and 1,000,000, show: either both have no plan, or the higher penalty's least cost is no smaller, and larger by at most
-- penalty weight × that task's jobs × the difference." Its words are defined in `Penalties` of crate `penalties`.
use Rattle.std.specs.Prelude.{ℕ, ◌-◌, ◌*◌, ◌≤◌, ◌<◌, List, ◌≡◌, length, Ok}
use Rattle.ranges.specs.Limits.{most_penalty}
use Rattle.instance.specs.Node.{Problem, task_count}
use Rattle.instance.specs.SiteFile.{problem_of}
use Rattle.instance.specs.SiteFileLaws.{accepted_is_valid}
use Rattle.instance.specs.Valid.{InRange}
use Rattle.plan_rules.specs.Quantities.{jobs}
use Rattle.tables.specs.Periods.{valid_is_periodic}
use Rattle.tables.specs.Tables.{table_size}
use Rattle.planner.specs.Outcomes.{plan_outcome}
use Rattle.planner.specs.Planning.{best_plan}
use Rattle.penalties.specs.LeastCostTheorem.{least_cost_rises}
use Rattle.penalties.specs.OnePenaltyTheorem.{one_penalty_raises_least_cost}
use Rattle.penalties.specs.Penalties.{repriced, PenaltiesRaised, all_rises, PlansRise, AnswersRise, DrawingsRise}
use Rattle.penalties.specs.RiseLaws.{answers_rise, drawings_rise}

-- "either both have no plan, or the higher penalty's least cost is no smaller, and larger by at most" so much
pub record BillRises (low_words high_words : List ℕ) (low high : Problem) (most : ℕ) : Type 0 where
  pub best_plans : PlansRise low high most (best_plan low) (best_plan high)
  -- what planning answers for the two lists of words, with plans and tables that are long enough
  pub planning : (low_plan low_table high_plan high_table : List ℕ) →
      task_count low ≤ length low_plan → table_size low ≤ length low_table →
      task_count high ≤ length high_plan → table_size high ≤ length high_table →
      AnswersRise most (plan_outcome low_words low_plan low_table).answer (plan_outcome high_words high_plan high_table).answer
  -- anyone's drawings
  pub drawings : DrawingsRise low high most

bill_rises : (low_words high_words : List ℕ) (low high : Problem) → problem_of low_words ≡ Ok low → problem_of high_words ≡ Ok high →
    (most : ℕ) → PlansRise low high most (best_plan low) (best_plan high) → BillRises low_words high_words low high most
bill_rises low_words high_words low high low_read high_read most rise =
    record {
      best_plans = rise;
      planning = answers_rise low high most rise low_words high_words low_read high_read;
      drawings =
          drawings_rise low high most rise
          (valid_is_periodic (accepted_is_valid low_words low_read))
          (valid_is_periodic (accepted_is_valid high_words high_read));
    }

-- "For two accepted instances that differ in one task's penalty, both between 1 and 1,000,000": their bills differ by at most `bound`
-- of the problem, the task, and the two penalties
abbrev pub BoundsOnePenalty : (Problem → ℕ → ℕ → ℕ → ℕ) → Type 0
BoundsOnePenalty bound =
    (p : Problem) (i x y : ℕ) → i < task_count p → InRange 1 most_penalty x → InRange 1 most_penalty y → x ≤ y →
    (low_words high_words : List ℕ) → problem_of low_words ≡ Ok (repriced p i x) → problem_of high_words ≡ Ok (repriced p i y) →
    BillRises low_words high_words (repriced p i x) (repriced p i y) (bound p i x y)

-- "penalty weight × that task's jobs × the difference"
pub one_penalty_moves_the_bill : BoundsOnePenalty (λ p i x y. p.weights.penalty * jobs p i * (y - x))
one_penalty_moves_the_bill p i x y is_task low_range high_range no_lower low_words high_words low_read high_read =
    bill_rises low_words high_words (repriced p i x) (repriced p i y) low_read high_read _
    (one_penalty_raises_least_cost p i is_task x y no_lower high_range.at_most)

-- for several tasks: where the same tasks may not be refused and no penalty falls, by at most the sum of what each may add
pub several_penalties_move_the_bill : (low_words high_words : List ℕ) (low high : Problem) →
    problem_of low_words ≡ Ok low → problem_of high_words ≡ Ok high →
    PenaltiesRaised low high → BillRises low_words high_words low high (all_rises low high)
several_penalties_move_the_bill low_words high_words low high low_read high_read raised =
    bill_rises low_words high_words low high low_read high_read (all_rises low high) (least_cost_rises raised)
