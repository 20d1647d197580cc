-- The outcome of reckoning sleeps for an instance that was read, case by case.
use Rattle.std.specs.Prelude.{ℕ, ◌≤◌, ◌<◌, List, ◌≡◌, length, get_or, Ok, Err}
use Rattle.std.proofs.Math.Path.{refl}
use Rattle.std.proofs.Common.{ap, ◌∙◌}
use Rattle.laws.specs.Lists.{onto}
use Rattle.laws.specs.OntoLaws.{get_d-onto-list_of}
use Rattle.instance.specs.Node.{Problem}
use Rattle.refusals.specs.RoomLaws.{enough_room, no_room}
use Rattle.refusals.specs.VerdictLaws.{refused_not_accepted, and_then-accepts}
use Rattle.instance.specs.SiteFile.{problem_of}
use Rattle.refusals.specs.declared.Refusal.{Refusal}
use Rattle.refusals.specs.declared.Refusal.TheVariants.{ShortBuffer}
use Rattle.refusals.specs.Refusals.{Verdict, accepted}
use Rattle.checks.specs.Checks.{check}
use Rattle.sleep.specs.CoreSleeps.{switching_passes, core_slept, least_energies, sleep_counts}
use Rattle.sleep.specs.Outcomes.{SleepOutcome, Gives, sleep_outcome, sleep_outcome_of, sleep_where, room_for_both, sleep_tests}

module _ (p : Problem) (plan table : List ℕ) (energy time : ℕ) (energies sleeps : List ℕ) where
  abbrev outcome : SleepOutcome
  outcome = sleep_outcome_of (Ok p) plan table energy time energies sleeps

  gives_as_tested : (v : Verdict) → sleep_tests p plan table energy time energies sleeps ≡ v →
      outcome ≡ sleep_where v (least_energies p table energy time) (sleep_counts p table energy time) energies sleeps
  gives_as_tested v e =
      ap (λ v. sleep_where v (least_energies p table energy time) (sleep_counts p table energy time) energies sleeps) e

  refusal_leaves_lists : {r : Refusal} → sleep_tests p plan table energy time energies sleeps ≡ Err r → Gives (Err r) energies sleeps outcome
  refusal_leaves_lists {r} e = rw (gives_as_tested (Err r) e) (record { same_answer = refl; same_energies = refl; same_sleeps = refl })

  pub switching_is_refused : {r : Refusal} → switching_passes energy time ≡ Err r → Gives (Err r) energies sleeps outcome
  switching_is_refused e = refusal_leaves_lists (rw e refl)

  module _ (in_range : switching_passes energy time ≡ accepted) where
    pub short_energies_are_refused : (m : ℕ) → m ≡ p.cores → length energies < m → Gives (Err (ShortBuffer m)) energies sleeps outcome
    short_energies_are_refused m all short =
        refusal_leaves_lists (rw (in_range, ← all, no_room m energies short) refl)

    pub short_sleeps_are_refused : (m : ℕ) → m ≡ p.cores → m ≤ length energies → length sleeps < m →
        Gives (Err (ShortBuffer m)) energies sleeps outcome
    short_sleeps_are_refused m all enough short =
        refusal_leaves_lists (rw (in_range, ← all, enough_room m energies enough, no_room m sleeps short) refl)

    module _ (energies_room : p.cores ≤ length energies) (sleeps_room : p.cores ≤ length sleeps) where
      only_check_left : sleep_tests p plan table energy time energies sleeps ≡ check p plan table
      only_check_left = rw (in_range, enough_room p.cores energies energies_room, enough_room p.cores sleeps sleeps_room) refl

      pub table_is_refused : {r : Refusal} → check p plan table ≡ Err r → Gives (Err r) energies sleeps outcome
      table_is_refused e = refusal_leaves_lists (only_check_left ∙ e)

      pub lists_are_written : check p plan table ≡ accepted →
          Gives accepted (onto (least_energies p table energy time) energies) (onto (sleep_counts p table energy time) sleeps) outcome
      lists_are_written e =
          rw (gives_as_tested accepted (only_check_left ∙ e)) (record { same_answer = refl; same_energies = refl; same_sleeps = refl })

-- what core k answers where a call is not refused
pub record AnsweredSleep (p : Problem) (plan table : List ℕ) (energy time k : ℕ) (o : SleepOutcome) : Type 0 where
  pub passes : check p plan table ≡ accepted
  pub its_energy : get_or o.energies k 0 ≡ (core_slept p table energy time k).energy
  pub its_sleeps : get_or o.sleeps k 0 ≡ (core_slept p table energy time k).sleeps

module _ (words : List ℕ) (p : Problem) (read : problem_of words ≡ Ok p) (plan table : List ℕ) (energy time : ℕ) (energies sleeps : List ℕ) where
  written : (v : Verdict) → sleep_tests p plan table energy time energies sleeps ≡ v → (k : ℕ) → k < p.cores →
      let o = sleep_where v (least_energies p table energy time) (sleep_counts p table energy time) energies sleeps in
      o.answer ≡ accepted → AnsweredSleep p plan table energy time k o
  unfolding least_energies sleep_counts
  written (Ok tt) e k h served =
      let after_switching = ((and_then-accepts (switching_passes energy time) _).0 e).1 in
      record {
        passes = ((and_then-accepts (room_for_both p energies sleeps) (check p plan table)).0 after_switching).1;
        its_energy = get_d-onto-list_of (λ k. (core_slept p table energy time k).energy) energies p.cores k 0 h;
        its_sleeps = get_d-onto-list_of (λ k. (core_slept p table energy time k).sleeps) sleeps p.cores k 0 h;
      }
  written (Err r) e k h served = absurd (refused_not_accepted r served)

  pub answered_sleep : let o = sleep_outcome words plan table energy time energies sleeps in
      o.answer ≡ accepted → (k : ℕ) → k < p.cores → AnsweredSleep p plan table energy time k o
  unfolding sleep_outcome
  answered_sleep served k h =
      rw read (written (sleep_tests p plan table energy time energies sleeps) refl k h (rw read at served))
