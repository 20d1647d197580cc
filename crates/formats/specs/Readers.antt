-- How code takes words: by a reader, which has the index of the next word and the words from there on.
use Rattle.std.specs.Prelude.{ℕ, ◌-◌, Bool, List, [], ◌≡◌, Result, Ok, Err, leb, length}
use Rattle.refusals.specs.declared.Refusal.{Refusal}
use Rattle.formats.specs.Formats.{times}
use Rattle.formats.specs.Taking.{Taken, refused, taken, Take}
use Rattle.formats.specs.Written.{Format}

-- what is left of a list: the index of the next word, and the words from there on
pub record Left : Type 0 where
  pub at : ℕ
  pub words : List ℕ

abbrev pub start_of : List ℕ → Left
start_of all = record { at = 0; words = all }

-- whether no word is left
abbrev pub is_ended : Left → Bool
is_ended left = leb (length left.words) 0

-- what code answers and leaves where taking comes to this; what is left after a refusal has no meaning
abbrev pub Leaves : {A : Type 0} → Taken A → Result A Refusal → Left → Type 0
Leaves t (Err r) after = t ≡ refused r
Leaves t (Ok a) after = t ≡ taken a after.at after.words

-- code takes what `take` does: it answers the same refusal, or the same value, and then the same is left
pub record Takes {A : Type 0} (before : Left) (take : Take A) (result : Result A Refusal) (after : Left) : Type 0 where
  pub leaves : Leaves (take before.at before.words) result after

-- Things taken one after the other, `count` from `start` on: i are taken, `before` are they, and the others are taken from what
-- is left now.
pub record Repeats {fault : ℕ} {A : Type 0} (each : List A → Format fault A) (count i : ℕ) (start : Left) (before : List A) (now : Left) : Type 0 where
  pub goes_on : (times each (count - i) before).take now.at now.words ≡ (times each count []).take start.at start.words

-- what an answer comes to, where it is a value
abbrev pub mapped : {A B : Type 0} → (A → B) → Result A Refusal → Result B Refusal
mapped f (Err r) = Err r
mapped f (Ok a) = Ok (f a)
