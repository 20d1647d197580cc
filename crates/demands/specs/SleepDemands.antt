-- Document 02 (b), "Sleeping through gaps": what is promised of the two numbers that a core answers, for a table that passes the
-- check. Gaps and choices of gaps are defined in crate `gaps`, the rows in crate `sleep`.
use Rattle.std.specs.Prelude.{ℕ, ◌+◌, ◌*◌, ◌≤◌, ◌<◌, Bool, true, false, List, ◌↔◌, ◌≡◌, refl, get_or, Ok}
use Rattle.std.proofs.Common.{arith}
use Rattle.laws.specs.Sums.{sum}
use Rattle.refusals.specs.Refusals.{accepted}
use Rattle.instance.specs.Node.{Problem, span}
use Rattle.instance.specs.SiteFile.{problem_of}
use Rattle.instance.specs.SiteFileLaws.{accepted_is_valid}
use Rattle.instance.specs.Valid.{Valid}
use Rattle.checks.specs.Checks.{check}
use Rattle.plan_rules.specs.Quantities.{core_load}
use Rattle.prices.specs.Prices.{is_awake, idle_ticks}
use Rattle.gaps.specs.Gaps.{Gap, gap_ending_at}
use Rattle.gaps.specs.GapLaws.{InGap, gaps_are_disjoint, idle_slot_is_in_gap, gap_is_shorter_than_row}
use Rattle.gaps.specs.GapSumLaws.{gap_sizes_add_up}
use Rattle.gaps.specs.SleepLaws.{none_finds_less, sleeps_where_worth, sleeps_where_worth_is_choice, its_energy, its_sleeps, worth_sleeping, idle_row_sleeps_not}
use Rattle.gaps.specs.Sleeping.{SleepChoice, chosen_energy, chosen_sleeps}
use Rattle.gaps.specs.declared.SleepCosts.{SleepCosts}
use Rattle.sleep.specs.CoreGapLaws.{idle_slots_are_rest, off_core_is_idle, awake_core_is_busy, awake_energy_is_idle_energy}
use Rattle.sleep.specs.CoreSleeps.{costs_of, core_slept}
use Rattle.sleep.specs.OutcomeLaws.{answered_sleep}
use Rattle.sleep.specs.Outcomes.{sleep_outcome}
use Rattle.sleep.specs.RowLaws.{table_row_repeats}
use Rattle.sleep.specs.Rows.{busy_at}
use Rattle.tables.specs.Periods.{valid_is_periodic}
use Rattle.text.specs.Text.{words_of}
use Rattle.towhepamu.specs.CallOutcomes.{text_sleep_outcome}

-- the gaps of an awake core: its row, repeated
pub record GapsOfRow (busy : ℕ → Bool) (L load : ℕ) : Type 0 where
  -- two gaps that share a slot are one
  pub disjoint : {b s a b₂ s₂ a₂ t : ℕ} → Gap busy b s a → Gap busy b₂ s₂ a₂ → b < t → t < a → b₂ < t → t < a₂ →
      (b ≡ b₂) × (s ≡ s₂) × (a ≡ a₂)
  pub every_idle_slot_in_one : (t : ℕ) → t < L → busy t ≡ false → InGap busy (L + t)
  pub none_the_whole_row : {b s a : ℕ} → Gap busy b s a → s < L
  -- the sizes add up to the span less the load
  pub sizes_add_up : sum (gap_ending_at busy L) L + load ≡ L

-- the choice whose energy and sleeps are answered: it sleeps in a gap "exactly when the gap is no shorter than the switching time and
-- its idle energy exceeds the switching energy"
pub record AnsweredChoice (costs : SleepCosts) (busy : ℕ → Bool) (L energy sleeps : ℕ) : Type 0 where
  pub chosen : ℕ → Bool
  pub is_choice : SleepChoice costs busy L chosen
  pub same_energy : chosen_energy costs busy L chosen ≡ energy
  pub same_sleeps : chosen_sleeps L chosen ≡ sleeps
  pub sleeps_exactly_when : (t before size : ℕ) → Gap busy before size (L + t) →
      (chosen t ≡ true) ↔ ((costs.time ≤ size) × (costs.energy < costs.idle * size))

-- what core k answers
pub record LeastSleep (p : Problem) (plan table : List ℕ) (costs : SleepCosts) (k energy sleeps : ℕ) : Type 0 where
  -- "Nobody choosing gap by gap, and sleeping in no gap shorter than the switching time, may find less."
  pub nobody_finds_less : (chosen : ℕ → Bool) → SleepChoice costs (busy_at p table k) (span p) chosen →
      energy ≤ chosen_energy costs (busy_at p table k) (span p) chosen
  pub answered : AnsweredChoice costs (busy_at p table k) (span p) energy sleeps
  -- with no sleep, what (a) charges for idle ticks
  pub awake_as_priced : chosen_energy costs (busy_at p table k) (span p) (λ t. false) ≡ p.idle * idle_ticks p plan k
  -- "An off core answers 0 and 0."
  pub off_core : is_awake p plan k ≡ false → (energy ≡ 0) × (sleeps ≡ 0)
  pub gaps_of_awake_core : is_awake p plan k ≡ true → GapsOfRow (busy_at p table k) (span p) (core_load p plan k)

-- of every call that is not refused, whatever was lent
pub record SleepsLeast (words : List ℕ) (p : Problem) : Type 0 where
  pub each_core : (plan table : List ℕ) (energy time : ℕ) (energies sleeps : List ℕ) →
      let o = sleep_outcome words plan table energy time energies sleeps in
      o.answer ≡ accepted → (k : ℕ) → k < p.cores →
      LeastSleep p plan table (costs_of p energy time) k (get_or o.energies k 0) (get_or o.sleeps k 0)
  -- the call from C for a text of these words answers this verdict and writes these two lists
  pub from_text : (text : List ℕ) → words_of text ≡ Ok words → (plan table : List ℕ) (energy time : ℕ) (energies sleeps : List ℕ) →
      text_sleep_outcome text plan table energy time energies sleeps ≡ sleep_outcome words plan table energy time energies sleeps

module _ (p : Problem) (valid : Valid p) (plan table : List ℕ) (passes : check p plan table ≡ accepted) (k : ℕ) (h : k < p.cores) where
  gaps_of_core : is_awake p plan k ≡ true → GapsOfRow (busy_at p table k) (span p) (core_load p plan k)
  gaps_of_core awake =
      let repeats = table_row_repeats p table k in
      let some = awake_core_is_busy p valid plan table passes k h awake in
      record {
        disjoint = gaps_are_disjoint;
        every_idle_slot_in_one = idle_slot_is_in_gap repeats some;
        none_the_whole_row = gap_is_shorter_than_row (valid_is_periodic valid).span_positive repeats;
        sizes_add_up = omega (arith, gap_sizes_add_up (busy_at p table k) (span p) repeats some, idle_slots_are_rest p valid plan table passes k h);
      }

  least_sleep : (energy time : ℕ) → let slept = core_slept p table energy time k in LeastSleep p plan table (costs_of p energy time) k slept.energy slept.sleeps
  unfolding core_slept
  least_sleep energy time =
      let costs = costs_of p energy time in
      let busy = busy_at p table k in
      let repeats = table_row_repeats p table k in
      record {
        nobody_finds_less = none_finds_less costs busy (span p) repeats;
        answered = record {
          chosen = sleeps_where_worth costs busy (span p) repeats;
          is_choice = sleeps_where_worth_is_choice costs busy (span p) repeats;
          same_energy = its_energy costs busy (span p) repeats;
          same_sleeps = its_sleeps costs busy (span p) repeats;
          sleeps_exactly_when = λ t before size gap. worth_sleeping costs busy (span p) repeats t gap;
        };
        awake_as_priced = awake_energy_is_idle_energy p valid plan table passes k h energy time;
        off_core = λ off. idle_row_sleeps_not costs busy (span p) (off_core_is_idle p valid plan table passes k h off);
        gaps_of_awake_core = gaps_of_core;
      }

pub sleep_is_least : (words : List ℕ) (p : Problem) → problem_of words ≡ Ok p → SleepsLeast words p
unfolding text_sleep_outcome
sleep_is_least words p read =
    record {
      each_core = λ plan table energy time energies sleeps served k h.
          let valid = accepted_is_valid words read in
          let given = answered_sleep words p read plan table energy time energies sleeps served k h in
          rw (given.its_energy, given.its_sleeps) (least_sleep p valid plan table given.passes k h energy time);
      from_text = λ text of_text plan table energy time energies sleeps. rw of_text refl;
    }
