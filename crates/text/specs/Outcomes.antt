-- The whole outcome of turning text into words, for every text: the answer, and what the lent buffer holds afterwards; and
-- how the call ends.
use Rattle.refusals.specs.declared.Refusal.{Refusal}
use Rattle.std.specs.Prelude.{ℕ, List, [], ◌∷◌, length, Result, Ok, Err}
use Rattle.laws.specs.Lists.{onto}
use Rattle.refusals.specs.Endings.{lent, Ends, read_then, needed_for}
use Rattle.refusals.specs.Refusals.{Reading, room, Verdict, verdict_of}
use Rattle.text.specs.Text.{words_of}

pub record WordsOutcome : Type 0 where
  pub answer : Result ℕ Refusal
  pub words : List ℕ

-- "Every refusal leaves all lent buffers unchanged. An accepted call writes only the words or bytes its result needs,
-- from the front of each buffer."
abbrev pub words_where : Verdict → List ℕ → List ℕ → WordsOutcome
words_where (Ok tt) ws buffer = record { answer = Ok (length ws); words = onto ws buffer }
words_where (Err r) ws buffer = record { answer = Err r; words = buffer }

-- "Turning text into words: 1, then 6."
abbrev pub words_outcome_of : Reading (List ℕ) → List ℕ → WordsOutcome
words_outcome_of (Err r) buffer = record { answer = Err r; words = buffer }
words_outcome_of (Ok ws) buffer = words_where (room (length ws) buffer) ws buffer

unfoldable pub words_outcome : List ℕ → List ℕ → WordsOutcome
words_outcome text buffer = words_outcome_of (words_of text) buffer

-- "Turning text into words: 1, then 6."
abbrev pub TextEnds : List ℕ → List ℕ → Result ℕ Refusal → List ℕ → Type 0
TextEnds text buffer answer after =
    Ends
    (read_then (words_of text) (λ words. room (length words) buffer))
    (1 ∷ 6 ∷ [])
    (lent (needed_for length (words_of text)) buffer after ∷ [])
    (verdict_of answer)
