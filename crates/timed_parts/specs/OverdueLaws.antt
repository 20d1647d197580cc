-- Where by a tick of the span more is due than there are ticks up to it, with no more ticks of a job than any pattern has that goes on
-- from a node, no such pattern is admitted.
use Prim.Native.Nat.{ℕ, zero, suc, ◌+◌, ◌-◌, ◌*◌, ◌≤◌, ◌<◌}
use Rattle.std.specs.Prelude.{Bool, true, List, ◌++◌, ◌⊎◌, ◌≡◌}
use Rattle.std.proofs.Common.{inl, inr, sym, ◌∙◌, le_refl, le_trans, mul-le-mul_right, arith, get_or-append-add}
use Rattle.std.proofs.Math.Path.{refl, ap}
use Rattle.std.proofs.Math.ListN.{length, get_or, get_or-append}
use Rattle.laws.specs.Below.{lt_or_le}
use Rattle.laws.specs.Sums.{sum}
use Rattle.laws.specs.SumLaws.{sum_mono}
use Rattle.ranges.specs.Limits.{most_span}
use Rattle.edf.specs.Demand.{demand_at, jobs_due, meets_demand, ticks_due}
use Rattle.edf.specs.DemandLaws.{meets_demand_within}
use Rattle.assignment.specs.Keeping.{Keeps}
use Rattle.values.specs.declared.value.Worth.{Worth}
use Rattle.lagrangian.specs.AdmittedLaws.{counted}
use Rattle.lagrangian.specs.TimedItems.{TimedItems, timed_core}
use Rattle.lagrangian.specs.PatternLaws.{timing_of_lem}
use Rattle.lagrangian.specs.PriceColumns.{most_ticks}
use Rattle.lagrangian.specs.PriceLaws.{jobs_at_most}
use Rattle.lagrangian.specs.ReachedPatterns.{reached_pattern}
use Rattle.lagrangian.specs.TimedCores.{Timing, entry_ticks, pattern_tasks, timing_in, timings_of}
use Rattle.lagrangian.specs.declared.Timed.{Timed}
use Rattle.timed_parts.specs.DemandRows.{row_tick, row_entry, DemandRows, LowestColumn}
use Rattle.timed_parts.specs.Nodes.{NothingBefore, Stands}
use Rattle.timed_parts.specs.ServableLaws.{not_run_not_in_set, run_level_below}
use Rattle.timed_parts.specs.declared.Node.{Node}

module _ {timed : Timed} {timings rows : List ℕ} (ready : TimedItems timed timings) (holds : DemandRows timed timings most_ticks rows) where
  pub few_due : (n : ℕ) → n < most_ticks → (i : ℕ) → i < timed.items → row_entry rows n i ≤ most_span
  few_due n is_row i l =
      let row = holds.due n is_row in
      rw (row.jobs i l)
      (le_trans (jobs_at_most ready i (row_tick rows n) l) (le_trans row.within ready.span_at_most))

  module _ {cost q : List ℕ} {T : List Bool} {node : Node} (stands : Stands timed timings cost node q T) {column : List ℕ}
      (lowest : LowestColumn timed node rows timed.items column) {r : List ℕ} (keeps : Keeps timed.levels T r) where
    abbrev timing_of : ℕ → Timing
    timing_of = timing_in (timings_of timings timed.items)

    -- of the items still to come
    no_fewer_open : (k : ℕ) → node.item + k < timed.items → get_or column (node.item + k) 0 ≤ entry_ticks (timing_of (node.item + k)) (get_or r k 0)
    unfolding entry_ticks
    no_fewer_open k l = go (get_or r k 0) refl
      where
        go : (e : ℕ) → get_or r k 0 ≡ e → get_or column (node.item + k) 0 ≤ entry_ticks (timing_of (node.item + k)) e
        go zero out =
            let place : length T - 1 - k ≡ timed.items - 1 - (node.item + k) = omega (arith, stands.behind) in
            let not_open = rw (← stands.rest, place) at (not_run_not_in_set (length T) keeps refl k (omega (arith, stands.behind)) out) in
            omega (arith, lowest.others (node.item + k) l (omega arith) not_open)
        go (suc level) is =
            rw (timing_of_lem timings timed.items (node.item + k) l)
            (le_trans (lowest.fewest (node.item + k) l (omega arith))
            ((holds.fewest (node.item + k) l).at_most level (run_level_below keeps k level is)))

    no_fewer : (i : ℕ) → i < timed.items → get_or column i 0 ≤ entry_ticks (timing_of i) (get_or (q ++ r) i 0)
    no_fewer i l = go (lt_or_le i node.item)
      where
        go : (i < node.item) ⊎ (node.item ≤ i) → get_or column i 0 ≤ entry_ticks (timing_of i) (get_or (q ++ r) i 0)
        go (inl before) =
            rw (get_or-append q r 0 i (omega (arith, stands.front)), lowest.front i before, stands.ticks i) (le_refl _)
        go (inr after) =
            let k = i - node.item in
            let place : i ≡ node.item + k = omega arith in
            let its : get_or (q ++ r) i 0 ≡ get_or r k 0 =
            ap (λ (j : ℕ). get_or (q ++ r) j 0) (place ∙ ap (λ (j : ℕ). j + k) (sym stands.front)) ∙ get_or-append-add q r k 0 in
            rw its (rw (← place) at (no_fewer_open k (omega arith)))

    due_at_most : (n : ℕ) → n < most_ticks → meets_demand (pattern_tasks (timings_of timings timed.items) (q ++ r)) timed.span ≡ true →
        sum (λ (i : ℕ). get_or column i 0 * row_entry rows n i) timed.items ≤ row_tick rows n
    unfolding demand_at jobs_due pattern_tasks
    due_at_most n is_row met =
        let core = pattern_tasks (timings_of timings timed.items) (q ++ r) in
        let row = holds.due n is_row in
        let x = row_tick rows n in
        let all : sum (ticks_due core x) (length (timings_of timings timed.items)) ≡ sum (ticks_due core x) timed.items =
        ap (sum (ticks_due core x)) (counted ready) in
        let due = (meets_demand_within core timed.span).0 met x row.within in
        let each = sum_mono (λ (i : ℕ). get_or column i 0 * row_entry rows n i) (ticks_due core x) timed.items
        (λ i l. rw (row.jobs i l, ← timing_of_lem timings timed.items i l) (mul-le-mul_right (jobs_due core i x) (no_fewer i l))) in
        omega (arith, each, due, all)

  pub overdue_nothing_before : {cost q : List ℕ} {T : List Bool} {node : Node} {best : Worth} → Stands timed timings cost node q T →
      {column : List ℕ} → LowestColumn timed node rows timed.items column → (n : ℕ) → n < most_ticks →
      row_tick rows n < sum (λ (i : ℕ). get_or column i 0 * row_entry rows n i) timed.items → NothingBefore timed timings cost node q T best
  overdue_nothing_before {cost} {q} stands lowest n is_row over =
      record {
        after = λ u reached.
            let (r, keeps, met, worth) = reached_pattern (timed_core timed timings cost) reached in
            absurd (omega (arith, over, due_at_most stands lowest keeps n is_row met));
      }
