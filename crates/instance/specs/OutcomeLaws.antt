-- Reading ends as demand 1 has it, and hands over the instance that the words are.
use Rattle.std.specs.Prelude.{ℕ, List, [], ◌∷◌, ◌≡◌, refl, Result, Ok}
use Rattle.formats.specs.Readers.{mapped}
use Rattle.refusals.specs.EndingLaws.{serves, turns_down}
use Rattle.refusals.specs.Endings.{Ends, read_then}
use Rattle.instance.specs.Held.{HoldsProblem, stored_holds_problem}
use Rattle.instance.specs.Node.{Problem, stored}
use Rattle.instance.specs.Outcomes.{instance_outcome, ReadingEnds}
use Rattle.refusals.specs.RefusalNumbers.{UnreadOnly, read, unread}
use Rattle.refusals.specs.Refusals.{Reading, accepted, verdict_of}
use Rattle.refusals.specs.declared.Refusal.{Refusal}
use Rattle.instance.specs.SiteFile.{problem_of}
use Rattle.instance.specs.SiteFileLaws.{accepted_is_valid}
use Rattle.instance.specs.SiteFileRefusals.{reading_refuses_2_3_4}
use Rattle.instance.specs.declared.Instance.{Instance}

pub reading_ends : (words : List ℕ) → ReadingEnds words (instance_outcome words)
unfolding instance_outcome
reading_ends words = go (reading_refuses_2_3_4 words)
  where
    go : {reading : Reading Problem} → UnreadOnly (2 ∷ 3 ∷ 4 ∷ []) reading →
        Ends (read_then reading (λ p. accepted)) (2 ∷ 3 ∷ 4 ∷ []) [] (verdict_of (mapped stored reading))
    go (read p) = serves tt
    go (unread m) = turns_down m tt

pub instance_is_handed_over : (words : List ℕ) (p : Problem) → problem_of words ≡ Ok p →
    (inst : Instance) × (instance_outcome words ≡ Ok inst) × HoldsProblem p inst
unfolding instance_outcome
instance_is_handed_over words p e = (stored p, rw e refl, stored_holds_problem p (accepted_is_valid words e))

-- what the contract of reading says of its answer
pub outcome_is_promised : (words : List ℕ) (answer : Result Instance Refusal) → answer ≡ instance_outcome words →
    (answer ≡ instance_outcome words) × ReadingEnds words answer
outcome_is_promised words answer e = (e, rw e (reading_ends words))
