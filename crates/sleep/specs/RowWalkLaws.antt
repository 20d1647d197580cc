-- One pass along a row: what a gap comes to, each slot passed, and what the whole row comes to.
use Rattle.std.specs.Prelude.{ℕ, suc, ◌+◌, ◌*◌, ◌≤◌, ◌<◌, Bool, cond, ◌≡◌, None, Some}
use Rattle.std.proofs.Math.Bool.{true, false}
use Rattle.std.proofs.Math.Path.{refl}
use Rattle.std.proofs.Common.{le_of_lt, mul-le-mul, add-one, arith, le-leb, lt-ltb, le-ltb}
use Rattle.std.proofs.Math.Dec.{ltb}
use Rattle.std.proofs.lemmas.Bool.{lt-leb}
use Rattle.ranges.specs.Limits.{most_idle_power, most_span}
use Rattle.gaps.specs.Gaps.{Repeats}
use Rattle.gaps.specs.SleepLaws.{energy_at_most_awake, no_energy_in_no_gap, no_sleep_in_no_gap}
use Rattle.gaps.specs.Sleeping.{gap_energy, sleeps_in, energy_in, sleep_in, row_slept}
use Rattle.gaps.specs.Walks.{Walked, none_busy, walked_none, walked_past_idle, walked_past_busy, walked_past_first, walk_without_busy_slot, walk_comes_to}
use Rattle.gaps.specs.declared.SleepCosts.{SleepCosts}
use Rattle.gaps.specs.declared.Slept.{Slept}
use Rattle.sleep.specs.RowWalks.{most_idle_energy, GapReckoned, with_gap, Bounded, Passes, WalkedTo}
use Rattle.sleep.specs.declared.rows.Walk.{Walk}

module _ (costs : SleepCosts) (gap awake : ℕ) (same : awake ≡ costs.idle * gap) where
  pub gap_slept_through : costs.time ≤ gap → costs.energy < awake → GapReckoned costs gap (record { energy = costs.energy; sleeps = 1 })
  unfolding energy_in sleep_in gap_energy sleeps_in
  gap_slept_through long dear =
      let is_dear : ltb costs.energy (costs.idle * gap) ≡ true = rw (← same) (lt-ltb _ _ dear) in
      record { its_energy = rw (le-leb costs.time gap long, is_dear) refl; its_sleep = rw (le-leb costs.time gap long, is_dear) refl }

  gap_spent_awake : sleeps_in costs gap ≡ false → GapReckoned costs gap (record { energy = awake; sleeps = 0 })
  unfolding energy_in sleep_in gap_energy
  gap_spent_awake e = record { its_energy = rw e same; its_sleep = rw e refl }

  pub cheap_gap_spent_awake : costs.time ≤ gap → awake ≤ costs.energy → GapReckoned costs gap (record { energy = awake; sleeps = 0 })
  unfolding sleeps_in
  cheap_gap_spent_awake long cheap =
      let is_cheap : ltb costs.energy (costs.idle * gap) ≡ false = rw (← same) (le-ltb _ _ cheap) in
      gap_spent_awake (rw (le-leb costs.time gap long, is_cheap) refl)

  pub short_gap_spent_awake : gap < costs.time → GapReckoned costs gap (record { energy = awake; sleeps = 0 })
  unfolding sleeps_in
  short_gap_spent_awake short = gap_spent_awake (rw (lt-leb costs.time gap short) refl)

sleep_at_most_one : (costs : SleepCosts) (gap : ℕ) → sleep_in costs gap ≤ 1
unfolding sleep_in
sleep_at_most_one costs gap = go (sleeps_in costs gap)
  where
    go : (asleep : Bool) → cond asleep 1 0 ≤ 1
    go true = omega arith
    go false = omega arith

module _ {costs : SleepCosts} {gap : ℕ} {slept : Slept} (g : GapReckoned costs gap slept) where
  pub gap_energy_at_most : slept.energy ≤ costs.idle * gap
  gap_energy_at_most = rw g.its_energy (energy_at_most_awake costs gap)

  pub gap_sleep_at_most : slept.sleeps ≤ 1
  gap_sleep_at_most = rw g.its_sleep (sleep_at_most_one costs gap)

pub walk_begins : (costs : SleepCosts) (busy : ℕ → Bool) → WalkedTo costs busy 0 (record { leading = None; run = 0; slept = record { energy = 0; sleeps = 0 } })
walk_begins costs busy =
    record {
      energies = walked_none;
      sleeps = walked_none;
      slots_at_most = omega arith;
      energy_at_most = omega arith;
      sleeps_at_most = omega arith;
    }

pub walk_is_bounded : {costs : SleepCosts} {busy : ℕ → Bool} {x : ℕ} {walk : Walk} → costs.idle ≤ most_idle_power → x < most_span →
    WalkedTo costs busy x walk → Bounded costs walk
walk_is_bounded {costs} {busy} {x} {walk} idle short w =
    let most : costs.idle * x ≤ most_idle_energy = mul-le-mul idle (le_of_lt short) in
    record {
      slots_at_most = omega (arith, w.slots_at_most);
      energy_at_most = omega (arith, w.energy_at_most, most);
      sleeps_at_most = omega (arith, w.sleeps_at_most);
    }

-- no gap was reckoned before the first busy slot, so that one adds to nothing
first_passed : {F : ℕ → ℕ} {busy : ℕ → Bool} {x leading run total : ℕ} → busy x ≡ true → Walked F busy x false leading run total →
    Walked F busy (suc x) true run 0 total
first_passed e (none_busy w) = rw w.no_total (walked_past_first e (none_busy w))

module _ (costs : SleepCosts) (walk : Walk) where
  pub passes_idle : Passes costs walk false (record { leading = walk.leading; run = walk.run + 1; slept = walk.slept })
  passes_idle =
      record {
        goes_on = λ busy x e w.
            rw (add-one x, add-one walk.run)
            (record {
              energies = walked_past_idle (no_energy_in_no_gap costs) e w.energies;
              sleeps = walked_past_idle (no_sleep_in_no_gap costs) e w.sleeps;
              slots_at_most = omega (arith, w.slots_at_most);
              energy_at_most = omega (arith, w.energy_at_most);
              sleeps_at_most = omega (arith, w.sleeps_at_most);
            });
      }

  pub passes_busy : (leading : ℕ) → walk.leading ≡ Some leading →
      Passes costs walk true (record { leading = Some leading; run = 0; slept = with_gap costs walk.slept walk.run })
  passes_busy leading met =
      record {
        goes_on = λ busy x e w.
            rw (add-one x)
            (record {
              energies = walked_past_busy e (rw met at w.energies);
              sleeps = walked_past_busy e (rw met at w.sleeps);
              slots_at_most = omega (arith, rw met at w.slots_at_most);
              energy_at_most = omega (arith, rw met at w.energy_at_most, energy_at_most_awake costs walk.run);
              sleeps_at_most = omega (arith, w.sleeps_at_most, sleep_at_most_one costs walk.run);
            });
      }

  pub passes_first_busy : walk.leading ≡ None → Passes costs walk true (record { leading = Some walk.run; run = 0; slept = walk.slept })
  passes_first_busy none =
      record {
        goes_on = λ busy x e w.
            rw (add-one x)
            (record {
              energies = first_passed e (rw none at w.energies);
              sleeps = first_passed e (rw none at w.sleeps);
              slots_at_most = omega (arith, w.slots_at_most);
              energy_at_most = omega (arith, w.energy_at_most);
              sleeps_at_most = omega (arith, w.sleeps_at_most);
            });
      }

module _ (costs : SleepCosts) (busy : ℕ → Bool) (L : ℕ) (repeats : Repeats busy L) {leading run : ℕ} {slept : Slept} where
  pub row_comes_to : Walked (energy_in costs) busy L true leading run slept.energy → Walked (sleep_in costs) busy L true leading run slept.sleeps →
      with_gap costs slept (leading + run) ≡ row_slept costs busy L
  unfolding row_slept
  row_comes_to energies sleeps =
      let energy = walk_comes_to (energy_in costs) busy L repeats (no_energy_in_no_gap costs) energies in
      let count = walk_comes_to (sleep_in costs) busy L repeats (no_sleep_in_no_gap costs) sleeps in
      rw (energy, count) refl

  pub row_without_gaps : Walked (energy_in costs) busy L false leading run slept.energy → Walked (sleep_in costs) busy L false leading run slept.sleeps →
      slept ≡ row_slept costs busy L
  unfolding row_slept
  row_without_gaps energies sleeps =
      let energy = walk_without_busy_slot (energy_in costs) busy L repeats (no_energy_in_no_gap costs) energies in
      let count = walk_without_busy_slot (sleep_in costs) busy L repeats (no_sleep_in_no_gap costs) sleeps in
      rw (energy, count) refl
