-- A core of the problem admits a pattern where its jobs are done in time, as the search is told by the timings.
use Prim.Native.Nat.{ℕ, zero, suc, pred, ◌+◌, ◌*◌, ◌/◌, ◌%◌, ◌≤◌, ◌<◌}
use Rattle.std.specs.Prelude.{Bool, cond, not, ◌&&◌, List, ◌≡◌, eqb}
use Rattle.std.proofs.Math.Path.{refl}
use Rattle.std.proofs.Common.{◌∙◌}
use Rattle.std.proofs.Math.Nat.{div-eq_of_lt, mod-eq_of_lt, add-zero}
use native.Mathlib.Omega.{arith}
use Rattle.std.proofs.Math.Dec.{eqb-suc-zero}
use Rattle.std.proofs.Math.ListN.{length}
use Rattle.laws.specs.JoinedLaws.{length-list_of}
use Rattle.ranges.specs.Limits.{most_levels}
use Rattle.instance.specs.Node.{Problem, level_at, level_count, task_at, task_count, span}
use Rattle.instance.specs.SpanLaws.{span_above_zero, period_divides_span}
use Rattle.instance.specs.Valid.{Valid}
use Rattle.edf.specs.Demand.{meets_demand}
use Rattle.plan_rules.specs.CoreOfPlan.{core_tasks}
use Rattle.plan_rules.specs.Plans.{fits}
use Rattle.plan_rules.specs.Quantities
use Rattle.plan_rules.specs.Quantities.{choice_at, job_ticks, ticks, ticks_on}
use Rattle.plan_rules.specs.Windows.{window}
use Rattle.assignment.specs.Keeping.{Keeps}
use Rattle.lagrangian.specs.DemandBounds.{SameTasks, same_tasks_meet}
use Rattle.lagrangian.specs.TimedItems.{TimedItems}
use Rattle.lagrangian.specs.PatternLaws.{timing_of_lem}
use Rattle.lagrangian.specs.TimedCores.{entry_ticks, pattern_tasks, timing_at, timings_of, timing_width}
use Rattle.lagrangian.specs.declared.Timed.{Timed}
use Rattle.planner.specs.OfferedLaws.{keeps_choice}
use Rattle.offers.specs.TimedOptions.{TimingsOffered, word_of}

abbrev pub timed_of : Problem → Timed
timed_of p = record { items = task_count p; levels = level_count p; span = span p }

module _ {p : Problem} {timings : List ℕ} (t : TimingsOffered p (task_count p * timing_width) timings) where
  pub period_is : (i : ℕ) → i < task_count p → (timing_at timings i).period ≡ (task_at p i).period
  unfolding timing_at word_of
  period_is i h = rw (← add-zero (i * timing_width)) (t.word i 0 (omega arith) (omega arith))

  window_is : (i : ℕ) → i < task_count p → (timing_at timings i).window ≡ window (task_at p i)
  unfolding timing_at word_of
  window_is i h = t.word i 1 (omega arith) (omega arith)

  pub ticks_are : (i l : ℕ) → level_count p ≤ most_levels → i < task_count p → l < level_count p →
      (timing_at timings i).ticks l ≡ ticks p.start (task_at p i).cycles (level_at p l).speed
  unfolding timing_at word_of
  ticks_are i l few h k =
      let place : i * timing_width + 2 + l ≡ i * timing_width + (suc (suc l)) = omega arith in
      rw place (t.word i (suc (suc l)) (omega arith) (omega arith))

  module _ (v : Valid p) where
    pub problem_timed : TimedItems (timed_of p) timings
    problem_timed =
        record {
          few_items = v.task_count_bound;
          few_levels = v.level_count_bound.at_most;
          span_above_0 = span_above_zero v;
          span_at_most = v.span_at_most;
          timings_for_all = omega (arith, t.long, v.task_count_bound);
          item = λ i h.
              record {
                period_at_most = rw (period_is i h) (v.task i h).period.at_most;
                period_divides = rw (period_is i h) (period_divides_span v i h);
                window_above_0 = rw (window_is i h) (v.task i h).deadline.at_least;
                window_within_period = rw (window_is i h, period_is i h) (v.task i h).deadline.at_most;
              };
        }

    -- what choice c asks of core 0 for task i, as the problem says it
    ticks_if : ℕ → ℕ → ℕ
    ticks_if i c = cond (not (eqb c 0) && eqb (pred c / level_count p) 0) (ticks p.start (task_at p i).cycles (level_at p (pred c % level_count p)).speed) 0

    entry_ticks_lem : (i c : ℕ) → i < task_count p → c ≤ level_count p → entry_ticks (timing_at timings i) c ≡ ticks_if i c
    unfolding entry_ticks ticks_if
    entry_ticks_lem i zero h low = refl
    entry_ticks_lem i (suc l) h low = ticks_are i l v.level_count_bound.at_most h low ∙ rw (eqb-suc-zero, div-eq_of_lt low, mod-eq_of_lt low) refl

    same_tasks : {T : List Bool} {pattern : List ℕ} → Keeps (level_count p) T pattern →
        SameTasks (pattern_tasks (timings_of timings (task_count p)) pattern) (core_tasks p pattern 0)
    unfolding pattern_tasks core_tasks ticks_on Quantities.keeps job_ticks ticks_if timings_of
    same_tasks {T} {pattern} keeps =
        record {
          size = counted;
          period = λ i h. let l = rw counted at h in rw (timing_of_lem timings (task_count p) i l) (period_is i l);
          window = λ i h. let l = rw counted at h in rw (timing_of_lem timings (task_count p) i l) (window_is i l);
          ticks = λ i h.
              let l = rw counted at h in
              rw (timing_of_lem timings (task_count p) i l) (entry_ticks_lem i (choice_at pattern i) l (keeps_choice keeps i));
        }
      where
        counted : length (timings_of timings (task_count p)) ≡ task_count p
        counted = length-list_of (timing_at timings) (task_count p)

    pub timed_fits : {T : List Bool} {pattern : List ℕ} → Keeps (level_count p) T pattern →
        meets_demand (pattern_tasks (timings_of timings (task_count p)) pattern) (span p) ≡ fits p pattern 0
    unfolding fits
    timed_fits keeps = same_tasks_meet _ _ (same_tasks keeps) (span p)
