-- Why the test of a core's demand may pass over ticks: what is due by tick b is met by each tick from that number of ticks on.
use Rattle.std.specs.Prelude.{ℕ, suc, ◌≤◌, ◌<◌, List, Option, Some, None, is_none, ◌≡◌, refl, length, get_or}
use Rattle.std.proofs.Common.{⊎_elim, sym, eq-zero-or-pos, le_refl, le_trans, arith}
use Rattle.std.proofs.lemmas.Option.{none-some, IfSome_then}
use Rattle.laws.specs.Below.{lt_or_le}
use Rattle.laws.specs.Truth.{not_true_is_false}
use Rattle.dispatch.specs.Columns.{column_tasks}
use Rattle.dispatch.specs.Rows.{CoreTasks}
use Rattle.edf.specs.Demand.{WellFormed, demand_at, meets_demand}
use Rattle.edf.specs.DemandLaws.{demand_at_span, meets_demand_within, met_from_demand_on, none_due_by_0}
use Rattle.edf.specs.SchedulingTheorems.{load_decides_demand}
use Rattle.demand.specs.UnmetTicks.{DueAtRelease, MetAbove, SpanColumns, UnmetTick}

module _ (core : CoreTasks) (end : ℕ) where
  pub none_above_end : MetAbove core end end
  none_above_end = record { met_by = λ x above within. absurd (omega arith) }

  pub found_unmet : (b : ℕ) → b ≤ end → b < demand_at core b → UnmetTick core end (Some b)
  found_unmet b within over = record { met = λ none. absurd (none-some b (sym none)); unmet = (within, over) }

  module _ (wf : WellFormed core) where
    -- by b no more is due than there are ticks up to the tick after c: it goes on at c
    pub goes_on_at : (b c : ℕ) → demand_at core b ≤ suc c → MetAbove core b end → MetAbove core c end
    goes_on_at b c due met =
        record {
          met_by = λ x above within.
              ⊎_elim
              (λ (later : b < x). met.met_by x later within)
              (λ (by : x ≤ b). met_from_demand_on core wf b x by (le_trans due above))
              (lt_or_le b x);
        }

    pub none_unmet : MetAbove core 0 end → UnmetTick core end None
    none_unmet met = record { met = λ none. (meets_demand_within core end).1 by; unmet = tt }
      where
        by : (x : ℕ) → x ≤ end → demand_at core x ≤ x
        by x within =
            ⊎_elim
            (λ (none : x ≡ 0). rw (none, none_due_by_0 core wf) (le_refl 0))
            (λ (above : 0 < x). met.met_by x above within)
            (eq-zero-or-pos x)

-- there is none exactly where the demand is met
pub unmet_tick_decides : (core : CoreTasks) (end : ℕ) (r : Option ℕ) → UnmetTick core end r → is_none r ≡ meets_demand core end
unmet_tick_decides core end None answer = sym (answer.met refl)
unmet_tick_decides core end (Some t) answer =
    sym (not_true_is_false _ (λ met. omega (arith, (meets_demand_within core end).0 met t answer.unmet.0, answer.unmet.1)))

-- it depends on the demand alone
pub unmet_tick_of_same_demand : (core core₂ : CoreTasks) → ((x : ℕ) → demand_at core x ≡ demand_at core₂ x) → (end : ℕ) (r : Option ℕ) →
    UnmetTick core end r → UnmetTick core₂ end r
unmet_tick_of_same_demand core core₂ same end r answer =
    record {
      met = λ none.
          (meets_demand_within core₂ end).1 (λ x within. rw (← same x) ((meets_demand_within core end).0 (answer.met none) x within));
      unmet = IfSome_then r answer.unmet (λ t over. (over.0, rw (← same t) over.1));
    }

-- where no task is due before its next release, the end of the span decides
module _ (span : ℕ) (periods windows ticks : List ℕ) (ok : SpanColumns span periods windows ticks)
    (due : DueAtRelease periods windows (length periods)) where
  abbrev core : CoreTasks
  core = column_tasks periods windows ticks

  at_period_end : (i : ℕ) → i < length ticks → get_or windows i 0 ≡ get_or periods i 0
  at_period_end i l =
      omega (
        arith,
        due.none_early i (omega (arith, ok.columns.one_period_each)),
        ok.columns.well_formed.window_within_period i l,
      )

  pub end_of_span_decides : demand_at core span ≤ span → UnmetTick core span None
  end_of_span_decides met =
      record {
        met = λ none.
            (load_decides_demand core span ok.whole_periods at_period_end).1
            (rw (demand_at_span core ok.columns.well_formed span ok.whole_periods) at met);
        unmet = tt;
      }
