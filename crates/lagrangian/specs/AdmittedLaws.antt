-- Which patterns a core with due ticks admits.
use Rattle.std.specs.Prelude.{◌≡◌, ℕ, suc, ◌<◌, ◌≤◌, Bool, List, [], ◌∷◌, ◌++◌, length}
use Rattle.std.proofs.Common.{le_trans}
use Rattle.std.proofs.Math.Nat.{le_of_dvd}
use Rattle.laws.specs.JoinedLaws.{length-list_of}
use Rattle.edf.specs.Demand.{WellFormed}
use Rattle.assignment.specs.Values.{Value}
use Rattle.lagrangian.specs.DemandBounds.{ticks_within_window}
use Rattle.lagrangian.specs.TimedItems.{timed_core, TimedItems}
use Rattle.lagrangian.specs.PatternLaws.{timing_of_lem, entry_between}
use Rattle.lagrangian.specs.Reached.{Reached}
use Rattle.lagrangian.specs.ReachedPatterns.{reached_pattern}
use Rattle.lagrangian.specs.TimedCores.{timing_at, timings_of, pattern_tasks, entry_ticks}
use Rattle.lagrangian.specs.declared.Timed.{Timed}

module _ {timed : Timed} {timings : List ℕ} (ready : TimedItems timed timings) where
  pub counted : length (timings_of timings timed.items) ≡ timed.items
  unfolding timings_of
  counted = length-list_of (timing_at timings) timed.items

  pub pattern_well_formed : (pattern : List ℕ) → WellFormed (pattern_tasks (timings_of timings timed.items) pattern)
  unfolding pattern_tasks
  pattern_well_formed pattern =
      record {
        window_above_0 = λ i l. let within = rw counted at l in rw (timing_of_lem timings timed.items i within) (ready.item i within).window_above_0;
        window_within_period = λ i l. let within = rw counted at l in rw (timing_of_lem timings timed.items i within) (ready.item i within).window_within_period;
      }

  window_within_span : (i : ℕ) → i < timed.items → (timing_at timings i).window ≤ timed.span
  window_within_span i l =
      le_trans (ready.item i l).window_within_period (le_of_dvd ready.span_above_0 (ready.item i l).period_divides)

  -- what is reached after an item at a level has its job's ticks within its window
  pub reached_within_window : (cost q : List ℕ) {T : List Bool} (l : ℕ) {u : Value} → length q < timed.items →
      Reached (timed_core timed timings cost) (q ++ (suc l ∷ [])) T 0 u →
      (timing_at timings (length q)).ticks l ≤ (timing_at timings (length q)).window
  unfolding pattern_tasks entry_ticks
  reached_within_window cost q l within reached =
      let (r, keeps, met, worth) = reached_pattern _ reached in
      let pattern = q ++ (suc l ∷ []) ++ r in
      let i = length q in
      let fits = ticks_within_window _ (pattern_well_formed pattern) timed.span met i (rw counted within)
      (rw (timing_of_lem timings timed.items i within) (window_within_span i within)) in
      rw (entry_between q (suc l) r, timing_of_lem timings timed.items i within) at fits
