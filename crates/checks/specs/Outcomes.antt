-- The whole outcome of both checks of a table, for every list of words, and how a call ends.
use Rattle.std.specs.Prelude.{ℕ, List, [], ◌∷◌}
use Rattle.refusals.specs.Endings.{Ends, read_then}
use Rattle.instance.specs.Node.{Problem}
use Rattle.refusals.specs.Refusals.{Reading, ◌and_then◌, Verdict}
use Rattle.instance.specs.SiteFile.{problem_of}
use Rattle.checks.specs.Checks.{slots_pass, jobs_pass, slot_check, check}
use Rattle.plan_rules.specs.Plans.{choices_pass}

abbrev pub slot_check_outcome_of : Reading Problem → List ℕ → List ℕ → Verdict
slot_check_outcome_of reading plan table = read_then reading (λ p. slot_check p plan table)

unfoldable pub slot_check_outcome : List ℕ → List ℕ → List ℕ → Verdict
slot_check_outcome words plan table = slot_check_outcome_of (problem_of words) plan table

-- (d) 7, then 9, "length before slots"
abbrev pub SlotCheckingEnds : List ℕ → List ℕ → List ℕ → Verdict → Type 0
SlotCheckingEnds words plan table answer =
    Ends
    (read_then (problem_of words) (λ p. choices_pass p plan and_then slots_pass p plan table))
    (2 ∷ 3 ∷ 4 ∷ 7 ∷ 9 ∷ [])
    []
    answer

abbrev pub check_outcome_of : Reading Problem → List ℕ → List ℕ → Verdict
check_outcome_of reading plan table = read_then reading (λ p. check p plan table)

unfoldable pub check_outcome : List ℕ → List ℕ → List ℕ → Verdict
check_outcome words plan table = check_outcome_of (problem_of words) plan table

-- "The check tests 7, 9 (length before slots), 10, and not 8."
abbrev pub CheckingEnds : List ℕ → List ℕ → List ℕ → Verdict → Type 0
CheckingEnds words plan table answer =
    Ends
    (read_then (problem_of words) (λ p. choices_pass p plan and_then slots_pass p plan table and_then jobs_pass p plan table))
    (2 ∷ 3 ∷ 4 ∷ 7 ∷ 9 ∷ 10 ∷ [])
    []
    answer
