-- No choice of gaps to sleep in draws less than `row_slept` says, and one draws just that.
use Prim.Native.Nat.{ℕ, zero, suc, ◌+◌, ◌*◌, ◌≤◌, ◌<◌}
use Rattle.std.specs.Prelude.{Bool, ◌&&◌, ◌↔◌, ◌≡◌, leb}
use Rattle.std.proofs.Math.Bool.{true, false, cond}
use Rattle.std.proofs.Math.Path.{refl, ap}
use Rattle.std.proofs.Common.{◌∙◌}
use Rattle.std.proofs.Math.Nat.{mul-zero, le_refl, le_of_lt}
use native.Mathlib.Omega.{arith}
use borrow.Author.Tests.{leb-true, ltb-true, ltb-false, le-leb, lt-ltb}
use Rattle.std.proofs.Math.Dec.{ltb}
use Rattle.laws.specs.CountLaws.{count_is_sum}
use Rattle.laws.specs.SumLaws.{sum_mono, sum_scaled}
use Rattle.laws.specs.Truth.{and_is_true, not_true_is_false}
use Rattle.gaps.specs.Gaps.{Repeats, Gap, SomeBusy, gap_ending_at, over_gaps}
use Rattle.gaps.specs.GapLaws.{counted_is_gap, gap_is_counted}
use Rattle.gaps.specs.GapSumLaws.{idle_slots, gap_sizes_add_up, no_gaps_without_busy_slot}
use Rattle.gaps.specs.Sleeping.{gap_energy, sleeps_in, energy_in, sleep_in, row_slept, SleepChoice, chosen_energy, chosen_sleeps}
use Rattle.gaps.specs.declared.SleepCosts.{SleepCosts}

module _ (costs : SleepCosts) where
  -- where the gap is long enough, the lesser of the two energies
  pub energy_at_most_awake : (gap : ℕ) → energy_in costs gap ≤ costs.idle * gap
  unfolding energy_in gap_energy sleeps_in
  energy_at_most_awake gap = go (leb costs.time gap) (ltb costs.energy (costs.idle * gap)) refl
    where
      go : (long dear : Bool) → ltb costs.energy (costs.idle * gap) ≡ dear → cond (long && dear) costs.energy (costs.idle * gap) ≤ costs.idle * gap
      go true true e = le_of_lt (ltb-true _ _ e)
      go true false e = le_refl _
      go false dear e = le_refl _

  energy_at_most_asleep : (gap : ℕ) → costs.time ≤ gap → energy_in costs gap ≤ costs.energy
  unfolding energy_in gap_energy sleeps_in
  energy_at_most_asleep gap long = rw (le-leb costs.time gap long) (go (ltb costs.energy (costs.idle * gap)) refl)
    where
      go : (dear : Bool) → ltb costs.energy (costs.idle * gap) ≡ dear → cond dear costs.energy (costs.idle * gap) ≤ costs.energy
      go true e = le_refl _
      go false e = ltb-false _ _ e

  sleeps_in_gaps : (gap : ℕ) → sleeps_in costs gap ≡ true → (0 < gap) × (costs.time ≤ gap)
  unfolding sleeps_in
  sleeps_in_gaps gap e =
      let both = (and_is_true (leb costs.time gap) _).0 e in
      let dear : costs.energy < costs.idle * gap = ltb-true _ _ both.1 in
      (above gap dear, leb-true _ _ both.0)
    where
      above : (gap : ℕ) → costs.energy < costs.idle * gap → 0 < gap
      above zero dear = absurd (omega (arith, mul-zero costs.idle))
      above (suc gap) dear = omega arith

  -- there is nothing to sleep through where there is no gap
  no_sleep_through_no_gap : sleeps_in costs 0 ≡ false
  no_sleep_through_no_gap = not_true_is_false _ (λ e. let gap = sleeps_in_gaps 0 e in omega (arith, gap.0))

  pub no_energy_in_no_gap : energy_in costs 0 ≡ 0
  unfolding energy_in gap_energy
  no_energy_in_no_gap = rw no_sleep_through_no_gap (mul-zero costs.idle)

  pub no_sleep_in_no_gap : sleep_in costs 0 ≡ 0
  unfolding sleep_in
  no_sleep_in_no_gap = rw no_sleep_through_no_gap refl

module _ (costs : SleepCosts) (busy : ℕ → Bool) (L : ℕ) (repeats : Repeats busy L) where
  -- "Nobody choosing gap by gap, and sleeping in no gap shorter than the switching time, may find less."
  pub none_finds_less : (chosen : ℕ → Bool) → SleepChoice costs busy L chosen → (row_slept costs busy L).energy ≤ chosen_energy costs busy L chosen
  unfolding row_slept over_gaps chosen_energy gap_energy
  none_finds_less chosen choice = sum_mono _ _ L (λ t l. go t l (chosen t) refl)
    where
      go : (t : ℕ) → t < L → (asleep : Bool) → chosen t ≡ asleep → energy_in costs (gap_ending_at busy L t) ≤ gap_energy costs asleep (gap_ending_at busy L t)
      go t l true e =
          let gap = choice.gap t l e in
          energy_at_most_asleep costs (gap_ending_at busy L t) (rw (gap_is_counted repeats t gap.is_gap) gap.not_shorter)
      go t l false e = energy_at_most_awake costs (gap_ending_at busy L t)

  -- the choice that sleeps where a core is to sleep
  abbrev pub sleeps_where_worth : ℕ → Bool
  sleeps_where_worth t = sleeps_in costs (gap_ending_at busy L t)

  pub sleeps_where_worth_is_choice : SleepChoice costs busy L sleeps_where_worth
  sleeps_where_worth_is_choice =
      record {
        gap = λ t l e.
            let worth = sleeps_in_gaps costs (gap_ending_at busy L t) e in
            let gap = counted_is_gap repeats t l worth.0 in
            record { before = gap.0; size = gap_ending_at busy L t; is_gap = gap.1; not_shorter = worth.1 };
      }

  pub worth_sleeping : (t : ℕ) {before size : ℕ} → Gap busy before size (L + t) →
      (sleeps_where_worth t ≡ true) ↔ ((costs.time ≤ size) × (costs.energy < costs.idle * size))
  unfolding sleeps_in
  worth_sleeping t {before} {size} gap =
      rw (gap_is_counted repeats t gap) (
        λ e. let both = (and_is_true (leb costs.time size) _).0 e in (leb-true _ _ both.0, ltb-true _ _ both.1),
        λ both. (and_is_true (leb costs.time size) _).1 (le-leb _ _ both.0, lt-ltb _ _ both.1),
      )

  pub its_energy : chosen_energy costs busy L sleeps_where_worth ≡ (row_slept costs busy L).energy
  unfolding row_slept over_gaps chosen_energy energy_in
  its_energy = refl

  pub its_sleeps : chosen_sleeps L sleeps_where_worth ≡ (row_slept costs busy L).sleeps
  unfolding row_slept over_gaps sleep_in
  its_sleeps = count_is_sum sleeps_where_worth L

  -- awake in every gap
  pub energy_without_sleep : SomeBusy busy L → chosen_energy costs busy L (λ t. false) ≡ costs.idle * idle_slots busy L
  unfolding chosen_energy gap_energy
  energy_without_sleep some = sum_scaled costs.idle (gap_ending_at busy L) L ∙ ap (λ (n : ℕ). costs.idle * n) (gap_sizes_add_up busy L repeats some)

-- a row without a busy slot has no gap to draw in
pub no_energy_of_idle_row : (costs : SleepCosts) (busy : ℕ → Bool) (L : ℕ) → ((t : ℕ) → t < L → busy t ≡ false) →
    chosen_energy costs busy L (λ t. false) ≡ 0
unfolding chosen_energy gap_energy over_gaps
no_energy_of_idle_row costs busy L idle = no_gaps_without_busy_slot (λ gap. costs.idle * gap) (mul-zero costs.idle) busy L idle

pub idle_row_sleeps_not : (costs : SleepCosts) (busy : ℕ → Bool) (L : ℕ) → ((t : ℕ) → t < L → busy t ≡ false) →
    ((row_slept costs busy L).energy ≡ 0) × ((row_slept costs busy L).sleeps ≡ 0)
unfolding row_slept
idle_row_sleeps_not costs busy L idle = (
  no_gaps_without_busy_slot (energy_in costs) (no_energy_in_no_gap costs) busy L idle,
  no_gaps_without_busy_slot (sleep_in costs) (no_sleep_in_no_gap costs) busy L idle,
)
