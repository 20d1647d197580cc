-- Rows of a few ticks and a node's column of ticks, entry by entry as the code fills them.
use Rattle.std.specs.Prelude.{ℕ, ◌+◌, ◌*◌, ◌≤◌, ◌<◌, List, ◌≡◌, refl, length, get_or, set}
use Rattle.std.proofs.Common.{◌∙◌, arith, below_more, length-set, get_or-set_same, get_or-set_other}
use Rattle.assignment.specs.Limits.{most_items}
use Rattle.lagrangian.specs.PriceColumns.{JobsBy, most_ticks}
use Rattle.lagrangian.specs.declared.Timed.{Timed}
use Rattle.timed_parts.specs.DemandRows.{row_width, row_words, row_entry, DueRow, DemandRows, EntriesSet, RowSet, LowestColumn}
use Rattle.timed_parts.specs.TickColumns.{FewestTicks, in_set}
use Rattle.timed_parts.specs.declared.Node.{Node}

module _ {row : ℕ} {entries before : List ℕ} where
  pub no_entry_yet : EntriesSet row entries before 0 before
  no_entry_yet = record { places = refl; its_entries = λ i l. absurd (omega arith); earlier = λ j l. refl; later = λ j l. refl }

  pub one_entry_more : {k : ℕ} {after : List ℕ} → EntriesSet row entries before k after → row * row_width + 1 + k < length after → k < most_items →
      EntriesSet row entries before (k + 1) (set after (row * row_width + 1 + k) (get_or entries k 0))
  one_entry_more {k} {after} so_far room one =
      let at = row * row_width + 1 + k in
      let entry = get_or entries k 0 in
      record {
        places = length-set after at entry ∙ so_far.places;
        its_entries =
            below_more (λ i. row_entry (set after at entry) row i ≡ get_or entries i 0) k
            (λ i l. get_or-set_other after at (row * row_width + 1 + i) entry 0 (λ same. omega arith) ∙ so_far.its_entries i l)
            (get_or-set_same after at entry 0 room);
        earlier = λ j l. get_or-set_other after at j entry 0 (λ same. omega arith) ∙ so_far.earlier j l;
        later = λ j l. get_or-set_other after at j entry 0 (λ same. omega arith) ∙ so_far.later j l;
      }

pub row_set : {row tick : ℕ} {entries before after : List ℕ} → row * row_width < length before →
    EntriesSet row entries (set before (row * row_width) tick) most_items after → RowSet row tick entries before after
row_set {row} {tick} {before = before} room all =
    let at = row * row_width in
    record {
      places = all.places ∙ length-set before at tick;
      its_tick = all.earlier at (omega arith) ∙ get_or-set_same before at tick 0 room;
      its_entries = all.its_entries;
      earlier = λ j l. all.earlier j (omega arith) ∙ get_or-set_other before at j tick 0 (λ same. omega arith);
      later = λ j l. all.later j l ∙ get_or-set_other before at j tick 0 (λ same. omega arith);
    }

module _ {timed : Timed} {timings : List ℕ} (few : timed.items ≤ most_items) where
  pub no_ticks_yet : {tick : ℕ} {column before after : List ℕ} → RowSet most_ticks tick column before after → length before ≡ row_words →
      ((i : ℕ) → i < timed.items → FewestTicks timings i timed.levels (get_or column i 0)) → DemandRows timed timings 0 after
  no_ticks_yet filled long fewest =
      record {
        places = filled.places ∙ long;
        due = λ n l. absurd (omega arith);
        fewest = λ i l. rw (filled.its_entries i (omega arith)) (fewest i l);
      }

  same_row : {rows after : List ℕ} {n k : ℕ} → ((j : ℕ) → j < k * row_width → get_or after j 0 ≡ get_or rows j 0) → n < k →
      DueRow timed timings rows n → DueRow timed timings after n
  same_row {n = n} same below due =
      record {
        within = rw (same (n * row_width) (omega arith)) due.within;
        jobs = λ i l. rw (same (n * row_width) (omega arith), same (n * row_width + 1 + i) (omega arith)) (due.jobs i l);
      }

  pub one_tick_more : {k tick : ℕ} {jobs rows after : List ℕ} → DemandRows timed timings k rows → k < most_ticks → tick ≤ timed.span →
      JobsBy tick timings timed.items jobs → RowSet k tick jobs rows after → DemandRows timed timings (k + 1) after
  one_tick_more {k} {tick} {jobs} {rows} {after} so_far room within are_jobs filled =
      record {
        places = filled.places ∙ so_far.places;
        due =
            below_more (λ n. DueRow timed timings after n) k (λ n l. same_row filled.earlier l (so_far.due n l))
            (record {
              within = rw filled.its_tick within;
              jobs = λ i l. rw filled.its_tick (filled.its_entries i (omega arith) ∙ are_jobs.at i l);
            });
        fewest = λ i l. rw (filled.later (most_ticks * row_width + 1 + i) (omega arith)) (so_far.fewest i l);
      }

module _ {timed : Timed} {node : Node} {rows : List ℕ} where
  pub front_column : length node.ticks ≡ most_items → LowestColumn timed node rows node.item node.ticks
  front_column places =
      record {
        places = places;
        front = λ i l. refl;
        fewest = λ i from l. absurd (omega arith);
        others = λ i from l out. absurd (omega arith);
      }

  pub one_open_more : {k ticks : ℕ} {column : List ℕ} → LowestColumn timed node rows k column → node.item ≤ k → k < most_items →
      ticks ≤ row_entry rows most_ticks k → (in_set timed.items node.rest k ≡ 0 → ticks ≡ 0) →
      LowestColumn timed node rows (k + 1) (set column k ticks)
  one_open_more {k} {ticks} {column} so_far from room few out =
      let here = get_or-set_same column k ticks 0 (omega (arith, so_far.places)) in
      record {
        places = length-set column k ticks ∙ so_far.places;
        front = λ i l. get_or-set_other column k i ticks 0 (λ same. omega arith) ∙ so_far.front i l;
        fewest =
            below_more (λ i. node.item ≤ i → get_or (set column k ticks) i 0 ≤ row_entry rows most_ticks i) k
            (λ i l above. rw (get_or-set_other column k i ticks 0 (λ same. omega arith)) (so_far.fewest i l above))
            (λ above. rw here few);
        others =
            below_more (λ i. node.item ≤ i → in_set timed.items node.rest i ≡ 0 → get_or (set column k ticks) i 0 ≡ 0) k
            (λ i l above. rw (get_or-set_other column k i ticks 0 (λ same. omega arith)) (so_far.others i l above))
            (λ above. rw here out);
      }
