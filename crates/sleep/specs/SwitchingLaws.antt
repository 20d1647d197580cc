-- What the test of the switching words answers.
use Rattle.refusals.specs.Refusals.{accepted}
use Rattle.std.specs.Prelude.{ℕ, ◌≤◌, ◌<◌, [], ◌∷◌, ◌≡◌, leb, Err}
use mathlib.Core.List.Memᴰ
use Rattle.std.proofs.Math.Path.{refl}
use borrow.Author.Tests.{le-leb, lt-leb}
use Rattle.ranges.specs.Limits.{most_switching_energy, most_switching_time}
use Rattle.refusals.specs.RefusalNumbers.{RefusesOnly, both_refuse, refuses_unless, accepts}
use Rattle.refusals.specs.declared.Refusal.TheVariants.{SwitchingWord}
use Rattle.sleep.specs.CoreSleeps.{switching_passes}

module _ (energy time : ℕ) where
  pub energy_out_of_range : most_switching_energy < energy → Err (SwitchingWord 0) ≡ switching_passes energy time
  unfolding switching_passes
  energy_out_of_range above = rw (lt-leb energy most_switching_energy above) refl

  module _ (energy_within : energy ≤ most_switching_energy) where
    pub time_out_of_range : most_switching_time < time → Err (SwitchingWord 1) ≡ switching_passes energy time
    unfolding switching_passes
    time_out_of_range above = rw (le-leb energy most_switching_energy energy_within, lt-leb time most_switching_time above) refl

    pub both_in_range : time ≤ most_switching_time → accepted ≡ switching_passes energy time
    unfolding switching_passes
    both_in_range within = rw (le-leb energy most_switching_energy energy_within, le-leb time most_switching_time within) refl

  pub switching_refuses_11 : RefusesOnly (11 ∷ []) (switching_passes energy time)
  unfolding switching_passes
  switching_refuses_11 =
      both_refuse
      (refuses_unless (SwitchingWord 0) (Memᴰ.head refl) (leb energy most_switching_energy) accepted accepts)
      (refuses_unless (SwitchingWord 1) (Memᴰ.head refl) (leb time most_switching_time) accepted accepts)
