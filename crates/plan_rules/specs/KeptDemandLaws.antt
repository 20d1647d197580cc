-- The demand of a core's kept tasks, in columns, is the core's.
use Rattle.std.specs.Prelude.{ℕ, ◌≤◌, ◌<◌, false, List, Option, is_none, ◌≡◌, refl, length, get_or, take}
use Rattle.std.proofs.Math.Path.{ap}
use Rattle.std.proofs.Common.{sym, ◌∙◌, zero-mul, arith, get_or-take, length-take-le}
use Rattle.ranges.specs.Limits.{most_tasks}
use Rattle.laws.specs.SumLaws.{sum_cong}
use Rattle.laws.specs.Sums.{sum}
use Rattle.instance.specs.Node.{Problem, task_at, task_count, span}
use Rattle.instance.specs.SpanLaws.{span_above_zero, period_divides_span}
use Rattle.instance.specs.Valid.{Valid}
use Rattle.dispatch.specs.Columns.{column_tasks}
use Rattle.dispatch.specs.Rows.{CoreTasks}
use Rattle.edf.specs.Demand.{demand_at, jobs_due, ticks_due}
use Rattle.demand.specs.UnmetTicks.{SpanColumns, UnmetTick}
use Rattle.demand.specs.UnmetTickLaws.{unmet_tick_decides, unmet_tick_of_same_demand}
use Rattle.plan_rules.specs.CoreOfPlan.{core_tasks}
use Rattle.plan_rules.specs.KeptColumnLaws.{is_task}
use Rattle.plan_rules.specs.KeptColumns.{KeptColumns, place_of}
use Rattle.plan_rules.specs.KeptSumLaws.{sum_over_kept}
use Rattle.plan_rules.specs.Plans.{fits}
use Rattle.plan_rules.specs.Quantities.{keeps, ticks_on}
use Rattle.plan_rules.specs.Windows.{window}
use Rattle.plan_rules.specs.declared.columns.KeptTasks.{KeptTasks}

-- the columns, each as long as there are kept tasks
abbrev pub kept_core : KeptTasks → CoreTasks
kept_core kept = column_tasks (take kept.count kept.periods) (take kept.count kept.windows) (take kept.count kept.ticks)

module _ (p : Problem) (v : Valid p) (plan : List ℕ) (k : ℕ) (kept : KeptTasks) (columns : KeptColumns p plan k (task_count p) kept) where
  places_enough : kept.count ≤ most_tasks
  places_enough = omega (arith, columns.no_more, v.task_count_bound)

  pub length_front : (xs : List ℕ) → length xs ≡ most_tasks → length (take kept.count xs) ≡ kept.count
  length_front xs long = length-take-le kept.count xs (omega (arith, places_enough))

  is_kept : (j : ℕ) → j < (kept_core kept).size → j < kept.count
  is_kept j l = omega (arith, length_front kept.ticks columns.places.of_ticks)

  module _ (j : ℕ) (l : j < kept.count) where
    period_in_front : get_or (take kept.count kept.periods) j 0 ≡ (task_at p (place_of kept j)).period
    period_in_front = get_or-take kept.count kept.periods j 0 l ∙ (columns.held j l).same_period

    window_in_front : get_or (take kept.count kept.windows) j 0 ≡ window (task_at p (place_of kept j))
    window_in_front = get_or-take kept.count kept.windows j 0 l ∙ (columns.held j l).same_window

    ticks_in_front : get_or (take kept.count kept.ticks) j 0 ≡ ticks_on p plan k (place_of kept j)
    ticks_in_front = get_or-take kept.count kept.ticks j 0 l ∙ (columns.held j l).same_ticks

  pub kept_columns_of_span : (w : ℕ) → w ≡ span p →
      SpanColumns w (take kept.count kept.periods) (take kept.count kept.windows) (take kept.count kept.ticks)
  kept_columns_of_span w wide =
      let of_ticks = length_front kept.ticks columns.places.of_ticks in
      let task : (j : ℕ) → j < (kept_core kept).size → place_of kept j < task_count p = λ j l. is_task p plan k kept columns j (is_kept j l) in
      record {
        columns = record {
          few_tasks = omega (arith, of_ticks, places_enough);
          one_period_each = length_front kept.periods columns.places.of_periods ∙ sym of_ticks;
          one_window_each = length_front kept.windows columns.places.of_windows ∙ sym of_ticks;
          period_at_most = λ j l. rw (period_in_front j (is_kept j l)) (v.task (place_of kept j) (task j l)).period.at_most;
          well_formed = record {
            window_above_0 = λ j l. rw (window_in_front j (is_kept j l)) (v.task (place_of kept j) (task j l)).deadline.at_least;
            window_within_period = λ j l.
                rw (window_in_front j (is_kept j l), period_in_front j (is_kept j l))
                (v.task (place_of kept j) (task j l)).deadline.at_most;
          };
        };
        whole_periods = record {
          span_above_0 = rw wide (span_above_zero v);
          period_divides = λ j l. rw (wide, period_in_front j (is_kept j l)) (period_divides_span v (place_of kept j) (task j l));
        };
        span_at_most = rw wide v.span_at_most;
      }

  demand_of_kept : (x : ℕ) → demand_at (kept_core kept) x ≡ demand_at (core_tasks p plan k) x
  unfolding demand_at jobs_due core_tasks ticks_on
  demand_of_kept x =
      let core = core_tasks p plan k in
      let of_ticks = length_front kept.ticks columns.places.of_ticks in
      ap (sum (ticks_due (kept_core kept) x)) of_ticks
      ∙ sum_cong (ticks_due (kept_core kept) x) (λ j. ticks_due core x (place_of kept j)) kept.count
      (λ j l. rw (period_in_front j l, window_in_front j l, ticks_in_front j l) refl)
      ∙ sum_over_kept p plan k kept columns (ticks_due core x) (λ i (e : keeps p plan k i ≡ false). rw e (zero-mul _))

  pub unmet_tick_decides_fit : (w : ℕ) (r : Option ℕ) → w ≡ span p → UnmetTick (kept_core kept) w r → is_none r ≡ fits p plan k
  unfolding fits
  unmet_tick_decides_fit w r wide answer =
      let core = core_tasks p plan k in
      unmet_tick_decides core (span p) r (unmet_tick_of_same_demand (kept_core kept) core demand_of_kept (span p) r (rw wide at answer))
