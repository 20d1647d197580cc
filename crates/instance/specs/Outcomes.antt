-- The whole outcome of reading an instance, for every list of words, and how reading ends.
use Rattle.std.specs.Prelude.{ℕ, List, [], ◌∷◌, Result}
use Rattle.formats.specs.Readers.{mapped}
use Rattle.instance.specs.Node.{stored}
use Rattle.instance.specs.SiteFile.{problem_of}
use Rattle.instance.specs.declared.Instance.{Instance}
use Rattle.refusals.specs.Endings.{Ends, read_then}
use Rattle.refusals.specs.Refusals.{Verdict, verdict_of, accepted}
use Rattle.refusals.specs.declared.Refusal.{Refusal}

unfoldable pub instance_outcome : List ℕ → Result Instance Refusal
instance_outcome words = mapped stored (problem_of words)

-- "words are taken from the front, each tested for 2, 3, 4"
abbrev pub ReadingEnds : List ℕ → Result Instance Refusal → Type 0
ReadingEnds words read = Ends (read_then (problem_of words) (λ p. accepted)) (2 ∷ 3 ∷ 4 ∷ []) [] (verdict_of read)
