-- Document 02 (b): what a core draws in its gaps, by the gaps that it sleeps in, and in which gaps it sleeps.
use Rattle.std.specs.Prelude.{ℕ, ◌+◌, ◌*◌, ◌≤◌, ◌<◌, Bool, true, cond, ◌&&◌, ◌≡◌, leb, ltb}
use Rattle.laws.specs.Search.{count}
use Rattle.laws.specs.Sums.{sum}
use Rattle.gaps.specs.Gaps.{Gap, gap_ending_at, over_gaps}
use Rattle.gaps.specs.declared.SleepCosts.{SleepCosts}
use Rattle.gaps.specs.declared.Slept.{Slept}

-- idle power for each tick of a gap spent awake, the switching energy alone for one slept through
unfoldable pub gap_energy : SleepCosts → Bool → ℕ → ℕ
gap_energy costs asleep gap = cond asleep costs.energy (costs.idle * gap)

-- "A core sleeps in a gap exactly when the gap is no shorter than the switching time and its idle energy exceeds the switching
-- energy."
unfoldable pub sleeps_in : SleepCosts → ℕ → Bool
sleeps_in costs gap = leb costs.time gap && ltb costs.energy (costs.idle * gap)

unfoldable pub energy_in : SleepCosts → ℕ → ℕ
energy_in costs gap = gap_energy costs (sleeps_in costs gap) gap

unfoldable pub sleep_in : SleepCosts → ℕ → ℕ
sleep_in costs gap = cond (sleeps_in costs gap) 1 0

-- "the least idle energy and the number of sleeps" of a row
unfoldable pub row_slept : SleepCosts → (ℕ → Bool) → ℕ → Slept
row_slept costs busy L = record { energy = over_gaps (energy_in costs) busy L; sleeps = over_gaps (sleep_in costs) busy L }

-- "Nobody choosing gap by gap, and sleeping in no gap shorter than the switching time": a choice names the gaps to sleep in by the
-- ticks of the span at which they end
pub record ChosenGap (costs : SleepCosts) (busy : ℕ → Bool) (L t : ℕ) : Type 0 where
  pub before : ℕ
  pub size : ℕ
  pub is_gap : Gap busy before size (L + t)
  pub not_shorter : costs.time ≤ size

pub record SleepChoice (costs : SleepCosts) (busy : ℕ → Bool) (L : ℕ) (chosen : ℕ → Bool) : Type 0 where
  pub gap : (t : ℕ) → t < L → chosen t ≡ true → ChosenGap costs busy L t

-- what such a choice draws in all gaps, and its sleeps
unfoldable pub chosen_energy : SleepCosts → (ℕ → Bool) → ℕ → (ℕ → Bool) → ℕ
chosen_energy costs busy L chosen = sum (λ t. gap_energy costs (chosen t) (gap_ending_at busy L t)) L

abbrev pub chosen_sleeps : ℕ → (ℕ → Bool) → ℕ
chosen_sleeps L chosen = count chosen L
