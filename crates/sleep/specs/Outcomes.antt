-- The whole outcome of reckoning sleeps, for every list of words: the answer, and what each lent list holds afterwards; and how
-- a call ends.
use Rattle.std.specs.Prelude.{ℕ, List, [], ◌∷◌, ◌≡◌, Ok, Err}
use Rattle.laws.specs.Lists.{onto}
use Rattle.refusals.specs.Endings.{lent, Ends, read_then, needed_for}
use Rattle.instance.specs.Node.{Problem}
use Rattle.refusals.specs.Refusals.{Reading, room, ◌and_then◌, Verdict, accepted}
use Rattle.instance.specs.SiteFile.{problem_of}
use Rattle.checks.specs.Checks.{check}
use Rattle.sleep.specs.CoreSleeps.{switching_passes, least_energies, sleep_counts}

pub record SleepOutcome : Type 0 where
  pub answer : Verdict
  pub energies : List ℕ
  pub sleeps : List ℕ

-- the answer and the lists that make an outcome
pub record Gives (answer : Verdict) (energies sleeps : List ℕ) (outcome : SleepOutcome) : Type 0 where
  pub same_answer : answer ≡ outcome.answer
  pub same_energies : energies ≡ outcome.energies
  pub same_sleeps : sleeps ≡ outcome.sleeps

abbrev pub sleep_where : Verdict → (new_energies new_sleeps energies sleeps : List ℕ) → SleepOutcome
sleep_where (Ok tt) new_energies new_sleeps energies sleeps =
    record { answer = accepted; energies = onto new_energies energies; sleeps = onto new_sleeps sleeps }
sleep_where (Err r) new_energies new_sleeps energies sleeps = record { answer = Err r; energies = energies; sleeps = sleeps }

-- "Each of the two lists needs M entries, else 6, energies first."
abbrev pub room_for_both : Problem → (energies sleeps : List ℕ) → Verdict
room_for_both p energies sleeps = room p.cores energies and_then room p.cores sleeps

-- 11 stands "after the instance's own refusals and before 6"; then "a table that passes the check"
abbrev pub sleep_tests : Problem → (plan table : List ℕ) → (energy time : ℕ) → (energies sleeps : List ℕ) → Verdict
sleep_tests p plan table energy time energies sleeps =
    switching_passes energy time and_then room_for_both p energies sleeps and_then check p plan table

abbrev pub sleep_outcome_of : Reading Problem → (plan table : List ℕ) → (energy time : ℕ) → (energies sleeps : List ℕ) → SleepOutcome
sleep_outcome_of (Err r) plan table energy time energies sleeps = record { answer = Err r; energies = energies; sleeps = sleeps }
sleep_outcome_of (Ok p) plan table energy time energies sleeps =
    sleep_where (sleep_tests p plan table energy time energies sleeps) (least_energies p table energy time) (sleep_counts p table energy time) energies sleeps

unfoldable pub sleep_outcome : (words plan table : List ℕ) → (energy time : ℕ) → (energies sleeps : List ℕ) → SleepOutcome
sleep_outcome words plan table energy time energies sleeps = sleep_outcome_of (problem_of words) plan table energy time energies sleeps

-- 2, 3, 4; 11; 6; and the check's own, 7, 9, 10
abbrev pub SleepingEnds : (words plan table : List ℕ) → (energy time : ℕ) → (energies sleeps : List ℕ) →
    Verdict → (energies_after sleeps_after : List ℕ) → Type 0
SleepingEnds words plan table energy time energies sleeps answer energies_after sleeps_after =
    let reading = problem_of words in
    let cores = needed_for (λ p. p.cores) reading in
    Ends
    (read_then reading (λ p. sleep_tests p plan table energy time energies sleeps))
    (2 ∷ 3 ∷ 4 ∷ 11 ∷ 6 ∷ 7 ∷ 9 ∷ 10 ∷ [])
    (lent cores energies energies_after ∷ lent cores sleeps sleeps_after ∷ [])
    answer
