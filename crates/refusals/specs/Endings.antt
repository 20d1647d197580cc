-- How a call ends, as demand 1 has it: served, or refused. "Every refusal leaves all lent buffers unchanged. An accepted
-- call writes only the words or bytes its result needs, from the front of each buffer."
use Rattle.std.specs.Prelude.{ℕ, ◌≡◌, length, drop, Ok, Err}
use mathlib.Core.List.{List, [], ◌∷◌, Memᴰ}
use Rattle.refusals.specs.Refusals.{Answer, answer, answer_of, Reading, Verdict}

-- a lent buffer: how many of its elements the result needs, and what it holds before and after the call
pub record Lent : Type 0 where
  pub needs : ℕ
  pub before : List ℕ
  pub after : List ℕ

pub record Unchanged (b : Lent) : Type 0 where
  pub as_before : b.after ≡ b.before

pub record FrontWritten (b : Lent) : Type 0 where
  pub same_length : length b.after ≡ length b.before
  pub rest_as_before : drop b.needs b.after ≡ drop b.needs b.before

abbrev pub lent : ℕ → List ℕ → List ℕ → Lent
lent needs before after = record { needs = needs; before = before; after = after }

-- P holds of every lent buffer
abbrev pub Every : (Lent → Type 0) → List Lent → Type 0
Every P [] = Unit {0}
Every P (b ∷ buffers) = P b × Every P buffers

-- what is returned: 0 and 0 from a call that did its work, or one of these numbers with a place
pub data ServedOrRefused (numbers : List ℕ) (buffers : List Lent) : Answer → Type 0 where
  served : Every FrontWritten buffers → ServedOrRefused numbers buffers (answer 0 0)
  refused : {number place : ℕ} → Memᴰ number numbers → Every Unchanged buffers → ServedOrRefused numbers buffers (answer number place)

-- a call for which document 01 has these tests in this order, and lists these numbers: its verdict is theirs
pub record Ends (tests : Verdict) (numbers : List ℕ) (buffers : List Lent) (verdict : Verdict) : Type 0 where
  pub as_tested : verdict ≡ tests
  pub ending : ServedOrRefused numbers buffers (answer_of verdict)

-- what is tested once the input was read
abbrev pub read_then : {A : Type 0} → Reading A → (A → Verdict) → Verdict
read_then (Err r) tests = Err r
read_then (Ok a) tests = tests a

-- what a result needs of a buffer, where the input was read
abbrev pub needed_for : {A : Type 0} → (A → ℕ) → Reading A → ℕ
needed_for size (Err r) = 0
needed_for size (Ok a) = size a
