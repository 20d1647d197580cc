-- Columns of the words of timings, and the test of a whole pattern by them.
use Rattle.std.specs.Prelude.{ℕ, ◌+◌, ◌*◌, ◌≤◌, ◌<◌, Bool, List, Option, is_none, ◌≡◌, refl, length, set, take, replicate}
use Rattle.std.proofs.Math.Path.{sym, ap}
use Rattle.std.proofs.Common.{◌∙◌, arith, length-set, get_or-set_same, get_or-set_other, length-take-le}
use Rattle.std.proofs.Math.ListN.{get_or}
use Rattle.std.proofs.Math.Seq.{get_or-take}
use Rattle.laws.specs.Below.{below_suc}
use Rattle.dispatch.specs.Columns.{column_tasks}
use Rattle.dispatch.specs.Rows.{CoreTasks}
use Rattle.demand.specs.UnmetTicks.{SpanColumns, UnmetTick}
use Rattle.demand.specs.UnmetTickLaws.{unmet_tick_decides, unmet_tick_of_same_demand}
use Rattle.assignment.specs.Limits.{most_items}
use Rattle.lagrangian.specs.AdmittedLaws.{counted}
use Rattle.lagrangian.specs.DemandBounds.{SameTasks, same_demand}
use Rattle.lagrangian.specs.TimedItems.{timed_core, TimedItems}
use Rattle.lagrangian.specs.PatternLaws.{timing_of_lem}
use Rattle.lagrangian.specs.TimedCores.{timing_at, timing_width, timings_of, pattern_tasks}
use Rattle.lagrangian.specs.declared.Timed.{Timed}
use Rattle.timed_parts.specs.Nodes.{Stands, WordColumn}
use Rattle.timed_parts.specs.TickColumns.{column_jobs}
use Rattle.timed_parts.specs.declared.Node.{Node}

module _ {items word : ℕ} {timings : List ℕ} where
  pub no_word_yet : WordColumn items word timings 0 (replicate most_items 0)
  no_word_yet = record { places = refl; at = λ j l. absurd (omega arith) }

  pub one_word_more : {i : ℕ} {column : List ℕ} (w : ℕ) → WordColumn items word timings i column → i < most_items →
      w ≡ get_or timings (i * timing_width + word) 0 → WordColumn items word timings (i + 1) (set column i w)
  one_word_more {i} {column} w so_far room is =
      record {
        places = length-set column i w ∙ so_far.places;
        at = λ j l.
            below_suc (λ j. get_or (set column i w) j 0 ≡ get_or timings (j * timing_width + word) 0) i
            (λ k m. get_or-set_other column i k w 0 (λ same. omega arith) ∙ so_far.at k m)
            (get_or-set_same column i w 0 (omega (arith, so_far.places)) ∙ is) j (omega arith);
      }

pub front_length : (n : ℕ) (xs : List ℕ) → n ≤ most_items → length xs ≡ most_items → length (take n xs) ≡ n
front_length n xs few long = length-take-le n xs (omega arith)

module _ {timed : Timed} {timings : List ℕ} (periods windows ticks : List ℕ) (ready : TimedItems timed timings)
    (are_periods : WordColumn timed.items 0 timings timed.items periods)
    (are_windows : WordColumn timed.items 1 timings timed.items windows) (places : length ticks ≡ most_items) where
  period_at : (i : ℕ) → i < timed.items → get_or (take timed.items periods) i 0 ≡ (timing_at timings i).period
  unfolding timing_at
  period_at i l = get_or-take timed.items periods i 0 l ∙ are_periods.at i l ∙ ap (λ (x : ℕ). get_or timings x 0) (omega arith)

  window_at : (i : ℕ) → i < timed.items → get_or (take timed.items windows) i 0 ≡ (timing_at timings i).window
  unfolding timing_at
  window_at i l = get_or-take timed.items windows i 0 l ∙ are_windows.at i l

  abbrev columns : CoreTasks
  columns = column_tasks (take timed.items periods) (take timed.items windows) (take timed.items ticks)

  is_item : (i : ℕ) → i < columns.size → i < timed.items
  is_item i l = rw (front_length _ ticks ready.few_items places) at l

  pub span_columns : SpanColumns timed.span (take timed.items periods) (take timed.items windows) (take timed.items ticks)
  span_columns =
      record {
        columns =
            record {
              few_tasks = omega (arith, front_length _ ticks ready.few_items places, ready.few_items);
              one_period_each = front_length _ periods ready.few_items are_periods.places ∙ sym (front_length _ ticks ready.few_items places);
              one_window_each = front_length _ windows ready.few_items are_windows.places ∙ sym (front_length _ ticks ready.few_items places);
              period_at_most = λ i l. rw (period_at i (is_item i l)) (ready.item i (is_item i l)).period_at_most;
              well_formed =
                  record {
                    window_above_0 = λ i l. rw (window_at i (is_item i l)) (ready.item i (is_item i l)).window_above_0;
                    window_within_period = λ i l.
                        rw (window_at i (is_item i l), period_at i (is_item i l)) (ready.item i (is_item i l)).window_within_period;
                  };
            };
        whole_periods =
            record {
              span_above_0 = ready.span_above_0;
              period_divides = λ i l. rw (period_at i (is_item i l)) (ready.item i (is_item i l)).period_divides;
            };
        span_at_most = ready.span_at_most;
      }

  same_jobs : SameTasks columns (column_jobs timed timings ticks)
  unfolding column_jobs
  same_jobs =
      record {
        size = front_length _ ticks ready.few_items places;
        period = λ i l. period_at i (is_item i l);
        window = λ i l. window_at i (is_item i l);
        ticks = λ i l. get_or-take timed.items ticks i 0 (is_item i l);
      }

  pub unmet_of_columns : {r : Option ℕ} → UnmetTick columns timed.span r → UnmetTick (column_jobs timed timings ticks) timed.span r
  unmet_of_columns {r} answer =
      unmet_tick_of_same_demand columns (column_jobs timed timings ticks) (same_demand _ _ same_jobs) timed.span r answer

module _ {timed : Timed} {timings cost : List ℕ} {node : Node} {q : List ℕ} {T : List Bool} (ready : TimedItems timed timings)
    (stands : Stands timed timings cost node q T) where
  same_tasks : SameTasks (column_jobs timed timings node.ticks) (pattern_tasks (timings_of timings timed.items) q)
  unfolding pattern_tasks column_jobs
  same_tasks =
      record {
        size = sym (counted ready);
        period = λ i l. ap (λ (t : _). t.period) (sym (timing_of_lem timings timed.items i l));
        window = λ i l. ap (λ (t : _). t.window) (sym (timing_of_lem timings timed.items i l));
        ticks = λ i l. stands.ticks i;
      }

  pub unmet_tick_admits : {r : Option ℕ} → UnmetTick (column_jobs timed timings node.ticks) timed.span r →
      is_none r ≡ (timed_core timed timings cost).admits q
  unmet_tick_admits {r} answer =
      unmet_tick_decides _ timed.span r
      (unmet_tick_of_same_demand (column_jobs timed timings node.ticks) (pattern_tasks (timings_of timings timed.items) q)
      (same_demand _ _ same_tasks) timed.span r answer)
