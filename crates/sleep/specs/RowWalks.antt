-- What the code holds of one pass along a row.
use Rattle.std.specs.Prelude.{ℕ, ◌+◌, ◌*◌, ◌≤◌, ◌<◌, Bool, ◌≡◌, is_some, unwrap_or}
use Rattle.ranges.specs.Limits.{most_idle_power, most_span}
use Rattle.gaps.specs.Sleeping.{energy_in, sleep_in}
use Rattle.gaps.specs.Walks.{Walked}
use Rattle.gaps.specs.declared.SleepCosts.{SleepCosts}
use Rattle.gaps.specs.declared.Slept.{Slept}
use Rattle.sleep.specs.declared.rows.Walk.{Walk}

-- what a core that is idle for the longest span draws
abbrev pub most_idle_energy : ℕ
most_idle_energy = most_idle_power * most_span

pub record GapReckoned (costs : SleepCosts) (gap : ℕ) (slept : Slept) : Type 0 where
  pub its_energy : slept.energy ≡ energy_in costs gap
  pub its_sleep : slept.sleeps ≡ sleep_in costs gap

-- what earlier gaps and a further one come to
abbrev pub with_gap : SleepCosts → Slept → ℕ → Slept
with_gap costs slept gap = record { energy = slept.energy + energy_in costs gap; sleeps = slept.sleeps + sleep_in costs gap }

-- the idle slots before the first busy one, 0 where none was met
abbrev pub leading_slots : Walk → ℕ
leading_slots walk = unwrap_or walk.leading 0

-- after x slots of a row
pub record WalkedTo (costs : SleepCosts) (busy : ℕ → Bool) (x : ℕ) (walk : Walk) : Type 0 where
  pub energies : Walked (energy_in costs) busy x (is_some walk.leading) (leading_slots walk) walk.run walk.slept.energy
  pub sleeps : Walked (sleep_in costs) busy x (is_some walk.leading) (leading_slots walk) walk.run walk.slept.sleeps
  pub slots_at_most : leading_slots walk + walk.run ≤ x
  pub energy_at_most : walk.slept.energy + costs.idle * (leading_slots walk + walk.run) ≤ costs.idle * x
  pub sleeps_at_most : walk.slept.sleeps ≤ x

-- so that the code's numbers fit
pub record Bounded (costs : SleepCosts) (walk : Walk) : Type 0 where
  pub slots_at_most : leading_slots walk + walk.run < most_span
  pub energy_at_most : walk.slept.energy + costs.idle * (leading_slots walk + walk.run) ≤ most_idle_energy
  pub sleeps_at_most : walk.slept.sleeps < most_span

-- one slot further, busy or not
pub record Passes (costs : SleepCosts) (walk : Walk) (busy_slot : Bool) (after : Walk) : Type 0 where
  pub goes_on : (busy : ℕ → Bool) (x : ℕ) → busy x ≡ busy_slot → WalkedTo costs busy x walk → WalkedTo costs busy (x + 1) after
