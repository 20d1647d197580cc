-- Checking a table ends as demand 1 has it.
use Rattle.std.specs.Prelude.{ℕ, List, [], ◌∷◌, ◌≡◌}
use mathlib.Core.List.Memᴰ
use Rattle.refusals.specs.EndingLaws.{turns_down, ends_as_tested}
use Rattle.refusals.specs.Endings.{Ends, read_then}
use Rattle.instance.specs.Node.{Problem}
use Rattle.refusals.specs.RefusalNumbers.{RefusesOnly, UnreadOnly, read, unread}
use Rattle.refusals.specs.Refusals.{Reading, Verdict}
use Rattle.instance.specs.SiteFile.{problem_of}
use Rattle.instance.specs.SiteFileRefusals.{reading_refuses_2_3_4}
use Rattle.checks.specs.Checks.{slot_check, check}
use Rattle.checks.specs.CheckLaws.{check_in_order}
use Rattle.checks.specs.Outcomes.{slot_check_outcome, SlotCheckingEnds, check_outcome, CheckingEnds}
use Rattle.checks.specs.RefusalLaws.{slot_check_refuses_7_9, check_refuses_7_9_10}

-- a call that reads an instance, tests what it was given with it, and writes nothing
reading_and_tests_end : {others : List ℕ} (words : List ℕ) (tests : Problem → Verdict) → ((p : Problem) → RefusesOnly others (tests p)) →
    Ends (read_then (problem_of words) tests) (2 ∷ 3 ∷ 4 ∷ others) [] (read_then (problem_of words) tests)
reading_and_tests_end {others} words tests refused = go (reading_refuses_2_3_4 words)
  where
    go : {reading : Reading Problem} → UnreadOnly (2 ∷ 3 ∷ 4 ∷ []) reading →
        Ends (read_then reading tests) (2 ∷ 3 ∷ 4 ∷ others) [] (read_then reading tests)
    go (read p) = ends_as_tested (2 ∷ 3 ∷ 4 ∷ []) (refused p)
    go (unread m) = turns_down (Memᴰ.append_left others m) tt

pub slot_checking_ends : (words plan table : List ℕ) → SlotCheckingEnds words plan table (slot_check_outcome words plan table)
unfolding slot_check_outcome slot_check
slot_checking_ends words plan table = reading_and_tests_end words (λ p. slot_check p plan table) (λ p. slot_check_refuses_7_9 p plan table)

pub checking_ends : (words plan table : List ℕ) → CheckingEnds words plan table (check_outcome words plan table)
unfolding check_outcome
checking_ends words plan table = simp (← check_in_order) (reading_and_tests_end words (λ p. check p plan table) (λ p. check_refuses_7_9_10 p plan table))

-- what the contracts say of an answer
pub slot_check_is_promised : (words plan table : List ℕ) (answer : Verdict) → answer ≡ slot_check_outcome words plan table →
    (answer ≡ slot_check_outcome words plan table) × SlotCheckingEnds words plan table answer
slot_check_is_promised words plan table answer e = (e, rw e (slot_checking_ends words plan table))

pub check_is_promised : (words plan table : List ℕ) (answer : Verdict) → answer ≡ check_outcome words plan table →
    (answer ≡ check_outcome words plan table) × CheckingEnds words plan table answer
check_is_promised words plan table answer e = (e, rw e (checking_ends words plan table))
