-- How large the demand of columns can be, so that the code's numbers fit.
use Rattle.std.specs.Prelude.{ℕ, ◌+◌, ◌*◌, ◌≤◌, ◌<◌, List, length, get_or}
use Rattle.std.proofs.Common.{le_trans, mul-le-mul, mul-le-mul_right}
use Rattle.laws.specs.SumBounds.{sum_and_next_at_most}
use Rattle.laws.specs.Sums.{sum}
use Rattle.ranges.specs.Limits.{most_span, most_tasks, most_word}
use Rattle.dispatch.specs.Columns.{column_tasks}
use Rattle.edf.specs.Demand.{ticks_due}
use Rattle.edf.specs.JobsDueLaws.{jobs_due-at_most}
use Rattle.demand.specs.UnmetTicks.{JobColumns}

-- a sum that is not yet complete, and its next term
pub demand_so_far_at_most : (periods windows ticks : List ℕ) → JobColumns periods windows ticks → ((j : ℕ) → get_or ticks j 0 ≤ most_word) →
    (tick : ℕ) → tick ≤ most_span → (i : ℕ) → i < length ticks →
    let its = ticks_due (column_tasks periods windows ticks) tick in sum its i + its i ≤ most_tasks * (most_word * most_span)
demand_so_far_at_most periods windows ticks ok words tick within i l =
    let core = column_tasks periods windows ticks in
    le_trans
    (sum_and_next_at_most (ticks_due core tick) (most_word * most_span) (length ticks) i
    (λ j m. mul-le-mul (words j) (le_trans (jobs_due-at_most core ok.well_formed j m tick) within)) l)
    (mul-le-mul_right (most_word * most_span) ok.few_tasks)
