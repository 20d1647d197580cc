-- A format: a way to take words together with the relation that says which lists of words write a value. A list is given
-- as what it begins with and what is left of it, so that a format may also say that the list ends.
use Rattle.std.specs.Prelude.{ℕ, suc, Bool, true, List, [], ◌∷◌, ◌⊎◌, ◌≡◌}
use Rattle.refusals.specs.Refusals.{number_of, place_of}
use Rattle.refusals.specs.declared.Refusal.{Refusal}
use Rattle.formats.specs.Taking.{Taken, refused, taken, Take}

-- `Written a words rest`: the front of `words`, up to `rest`, writes a
abbrev pub Written : Type 0 → Type 1
Written A = A → List ℕ → List ℕ → Type 0

pub data DoneWrites {A : Type 0} (a : A) : A → List ℕ → List ℕ → Type 0 where
  nothing : {words : List ℕ} → DoneWrites a a words words

pub data ThenWrites {A B : Type 0} (First : Written A) (Next : A → Written B) : B → List ℕ → List ℕ → Type 0 where
  then : {a : A} {b : B} {words middle rest : List ℕ} →
      First a words middle → Next a b middle rest → ThenWrites First Next b words rest

pub data WordWrites (passes : ℕ → Bool) : ℕ → List ℕ → List ℕ → Type 0 where
  word : (w : ℕ) {rest : List ℕ} → passes w ≡ true → WordWrites passes w (w ∷ rest) rest

pub data TestedWrites {A : Type 0} (Writes : Written A) (passes : A → Bool) : A → List ℕ → List ℕ → Type 0 where
  tested : {a : A} {words rest : List ℕ} → Writes a words rest → passes a ≡ true → TestedWrites Writes passes a words rest

pub data UnlessEndedWrites {A : Type 0} (absent : A) (Writes : Written A) : A → List ℕ → List ℕ → Type 0 where
  ended : UnlessEndedWrites absent Writes absent [] []
  goes_on : {a : A} (w : ℕ) {words rest : List ℕ} → Writes a (w ∷ words) rest → UnlessEndedWrites absent Writes a (w ∷ words) rest

pub data EndWrites : (Unit {0}) → List ℕ → List ℕ → Type 0 where
  ended : EndWrites tt [] []

-- index and words left move together
pub data Consumed : ℕ → List ℕ → ℕ → List ℕ → Type 0 where
  none : {at : ℕ} {words : List ℕ} → Consumed at words at words
  one : {at next : ℕ} (w : ℕ) {words rest : List ℕ} → Consumed (suc at) words next rest → Consumed at (w ∷ words) next rest

-- What taking comes to: a value that the words taken write, or a refusal whose place is the index reached. Its number is
-- 2, 3, or `fault`, that of the tested values.
pub data Outcome (fault : ℕ) {A : Type 0} (Writes : Written A) (at : ℕ) (words : List ℕ) : Taken A → Type 0 where
  took : {a : A} {next : ℕ} {rest : List ℕ} →
      Writes a words rest → Consumed at words next rest → Outcome fault Writes at words (taken a next rest)
  turned : (r : Refusal) {rest : List ℕ} →
      (number_of r ≡ 2) ⊎ (number_of r ≡ 3) ⊎ (number_of r ≡ fault) → Consumed at words (place_of r) rest →
      Outcome fault Writes at words (refused r)

-- what is taken is what is written, and what is written is taken
pub record Format (fault : ℕ) (A : Type 0) : Type 1 where
  pub take : Take A
  pub Writes : Written A
  pub sound : (at : ℕ) (words : List ℕ) → Outcome fault Writes at words (take at words)
  pub complete : (at : ℕ) {a : A} {words rest : List ℕ} → Writes a words rest → (next : ℕ) × (take at words ≡ taken a next rest)
