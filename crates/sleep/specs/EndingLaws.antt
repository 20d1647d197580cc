-- Reckoning sleeps ends as demand 1 has it.
use Prim.Native.Nat.{ℕ, ◌≤◌}
use mathlib.Core.List.Memᴰ
use Rattle.std.specs.Prelude.{List, [], ◌∷◌, ◌≡◌, refl, length}
use Rattle.laws.specs.JoinedLaws.{length-list_of}
use Rattle.refusals.specs.EndingLaws.{unchanged, serves, turns_down}
use Rattle.refusals.specs.Endings.{lent, Ends, read_then, needed_for}
use Rattle.instance.specs.Node.{Problem}
use Rattle.refusals.specs.RefusalNumbers.{RefusesOnly, accepts, refuses, UnreadOnly, read, unread, and_then-refuses, both_refuse, room_refuses_6}
use Rattle.refusals.specs.Refusals.{Reading, room, Verdict, accepted}
use Rattle.refusals.specs.RoomLaws.{room_accepts, front_written}
use Rattle.instance.specs.SiteFileRefusals.{reading_refuses_2_3_4}
use Rattle.checks.specs.Checks.{check}
use Rattle.checks.specs.RefusalLaws.{check_refuses_7_9_10}
use Rattle.refusals.specs.VerdictLaws.{and_then-accepts}
use Rattle.sleep.specs.CoreSleeps.{switching_passes, least_energies, sleep_counts}
use Rattle.sleep.specs.Outcomes.{SleepOutcome, Gives, sleep_outcome, sleep_outcome_of, sleep_where, room_for_both, sleep_tests, SleepingEnds}
use Rattle.sleep.specs.SwitchingLaws.{switching_refuses_11}

length-least_energies : (p : Problem) (table : List ℕ) (energy time : ℕ) → length (least_energies p table energy time) ≡ p.cores
unfolding least_energies
length-least_energies p table energy time = length-list_of _ p.cores

length-sleep_counts : (p : Problem) (table : List ℕ) (energy time : ℕ) → length (sleep_counts p table energy time) ≡ p.cores
unfolding sleep_counts
length-sleep_counts p table energy time = length-list_of _ p.cores

module _ (words plan table : List ℕ) (energy time : ℕ) (energies sleeps : List ℕ) where
  abbrev outcome : SleepOutcome
  outcome = sleep_outcome words plan table energy time energies sleeps

  pub sleeping_ends : SleepingEnds words plan table energy time energies sleeps outcome.answer outcome.energies outcome.sleeps
  unfolding sleep_outcome
  sleeping_ends = go (reading_refuses_2_3_4 words)
    where
      SleepEnds : Verdict → ℕ → SleepOutcome → Type 0
      SleepEnds v n o =
          Ends v (2 ∷ 3 ∷ 4 ∷ 11 ∷ 6 ∷ 7 ∷ 9 ∷ 10 ∷ []) (lent n energies o.energies ∷ lent n sleeps o.sleeps ∷ []) o.answer

      slept : (p : Problem) {v : Verdict} → RefusesOnly (11 ∷ 6 ∷ 7 ∷ 9 ∷ 10 ∷ []) v →
          (v ≡ accepted → (p.cores ≤ length energies) × (p.cores ≤ length sleeps)) →
          SleepEnds v p.cores (sleep_where v (least_energies p table energy time) (sleep_counts p table energy time) energies sleeps)
      slept p accepts enough =
          serves (
            front_written (least_energies p table energy time) energies (length-least_energies p table energy time) (enough refl).0,
            (front_written (sleep_counts p table energy time) sleeps (length-sleep_counts p table energy time) (enough refl).1, tt),
          )
      slept p (refuses m) enough = turns_down (Memᴰ.append_right (2 ∷ 3 ∷ 4 ∷ []) m) (unchanged, (unchanged, tt))

      enough : (p : Problem) → sleep_tests p plan table energy time energies sleeps ≡ accepted → (p.cores ≤ length energies) × (p.cores ≤ length sleeps)
      enough p e =
          let after_switching = ((and_then-accepts (switching_passes energy time) _).0 e).1 in
          let both = ((and_then-accepts (room_for_both p energies sleeps) (check p plan table)).0 after_switching).0 in
          let each = (and_then-accepts (room p.cores energies) (room p.cores sleeps)).0 both in
          (room_accepts _ _ each.0, room_accepts _ _ each.1)

      go : {reading : Reading Problem} → UnreadOnly (2 ∷ 3 ∷ 4 ∷ []) reading →
          SleepEnds
          (read_then reading (λ p. sleep_tests p plan table energy time energies sleeps))
          (needed_for (λ p. p.cores) reading)
          (sleep_outcome_of reading plan table energy time energies sleeps)
      go (read p) =
          slept p
          (and_then-refuses (switching_refuses_11 energy time)
          (and_then-refuses (both_refuse (room_refuses_6 p.cores energies) (room_refuses_6 p.cores sleeps)) (check_refuses_7_9_10 p plan table)))
          (enough p)
      go (unread m) = turns_down (Memᴰ.append_left (11 ∷ 6 ∷ 7 ∷ 9 ∷ 10 ∷ []) m) (unchanged, (unchanged, tt))

  -- what the contract says of an answer, and of both lists after it
  pub sleep_is_promised : (answer : Verdict) (energies_after sleeps_after : List ℕ) → Gives answer energies_after sleeps_after outcome →
      (answer ≡ outcome.answer) × ((energies_after ≡ outcome.energies) × ((sleeps_after ≡ outcome.sleeps)
      × SleepingEnds words plan table energy time energies sleeps answer energies_after sleeps_after))
  sleep_is_promised answer energies_after sleeps_after given = (
    given.same_answer,
    (given.same_energies, (given.same_sleeps, rw (given.same_answer, given.same_energies, given.same_sleeps) sleeping_ends)),
  )
