-- The papers' number and place of each refusal, and which of them a test can return.
use Rattle.std.specs.Prelude.{ℕ, zero, suc, min, ◌<◌, Bool, true, false, cond, ◌≡◌, refl, leb, ltb, eqb, length, get_or, Ok, Err}
use mathlib.Core.List.Memᴰ
use mathlib.Core.List.{List, [], ◌∷◌, ◌++◌, map, Memᴰ}
use Rattle.std.proofs.Common.{arith}
use Rattle.laws.specs.Search.{first}
use Rattle.refusals.specs.Refusals.{Reading, number_of, place_of, refusals_at, answer, answer_of, room, ◌and_then◌, Verdict, accepted}
use Rattle.refusals.specs.declared.Refusal.{Refusal}
use Rattle.refusals.specs.declared.Refusal.TheVariants.{Text, WordCount, WordRange, SpanTooLong, NoPlan, ShortBuffer, GivenPlan, CoreOverloaded, GivenTable, JobSlots, SwitchingWord, CoreOrState, EarlyEnd, CalendarDate, NoSuchQuestion}

pub numbers_and_places : (place : ℕ) →
    map (λ (r : Refusal). answer_of (Err r)) (refusals_at place)
    ≡ answer 1 place ∷ answer 2 place ∷ answer 3 place ∷ answer 4 place ∷ answer 5 0
    ∷ answer 6 place ∷ answer 7 place ∷ answer 8 place ∷ answer 9 place ∷ answer 10 place
    ∷ answer 11 place ∷ answer 12 0 ∷ answer 13 0 ∷ answer 17 place ∷ answer 18 0 ∷ []
numbers_and_places place = refl

is_at : (rs : List Refusal) (k : ℕ) → k < length rs → Memᴰ (get_or rs k NoPlan) rs
is_at [] k below = absurd (omega arith)
is_at (r ∷ rs) zero below = Memᴰ.head refl
is_at (r ∷ rs) (suc k) below = Memᴰ.tail (is_at rs k (omega arith))

pub every_refusal_is_listed : (r : Refusal) → Memᴰ r (refusals_at (place_of r))
every_refusal_is_listed (Text place) = is_at (refusals_at place) 0 (omega arith)
every_refusal_is_listed (WordCount place) = is_at (refusals_at place) 1 (omega arith)
every_refusal_is_listed (WordRange place) = is_at (refusals_at place) 2 (omega arith)
every_refusal_is_listed (SpanTooLong place) = is_at (refusals_at place) 3 (omega arith)
every_refusal_is_listed NoPlan = is_at (refusals_at 0) 4 (omega arith)
every_refusal_is_listed (ShortBuffer place) = is_at (refusals_at place) 5 (omega arith)
every_refusal_is_listed (GivenPlan place) = is_at (refusals_at place) 6 (omega arith)
every_refusal_is_listed (CoreOverloaded place) = is_at (refusals_at place) 7 (omega arith)
every_refusal_is_listed (GivenTable place) = is_at (refusals_at place) 8 (omega arith)
every_refusal_is_listed (JobSlots place) = is_at (refusals_at place) 9 (omega arith)
every_refusal_is_listed (SwitchingWord place) = is_at (refusals_at place) 10 (omega arith)
every_refusal_is_listed CoreOrState = is_at (refusals_at 0) 11 (omega arith)
every_refusal_is_listed EarlyEnd = is_at (refusals_at 0) 12 (omega arith)
every_refusal_is_listed (CalendarDate place) = is_at (refusals_at place) 13 (omega arith)
every_refusal_is_listed NoSuchQuestion = is_at (refusals_at 0) 14 (omega arith)

pub number_above_zero : (r : Refusal) → 0 < number_of r
number_above_zero (Text place) = omega arith
number_above_zero (WordCount place) = omega arith
number_above_zero (WordRange place) = omega arith
number_above_zero (SpanTooLong place) = omega arith
number_above_zero NoPlan = omega arith
number_above_zero (ShortBuffer place) = omega arith
number_above_zero (GivenPlan place) = omega arith
number_above_zero (CoreOverloaded place) = omega arith
number_above_zero (GivenTable place) = omega arith
number_above_zero (JobSlots place) = omega arith
number_above_zero (SwitchingWord place) = omega arith
number_above_zero CoreOrState = omega arith
number_above_zero EarlyEnd = omega arith
number_above_zero (CalendarDate place) = omega arith
number_above_zero NoSuchQuestion = omega arith

-- a verdict that is a refusal with one of these numbers, if it is one
pub data RefusesOnly (numbers : List ℕ) : Verdict → Type 0 where
  accepts : RefusesOnly numbers accepted
  refuses : {r : Refusal} → Memᴰ (number_of r) numbers → RefusesOnly numbers (Err r)

-- and so of something read
pub data UnreadOnly {A : Type 0} (numbers : List ℕ) : Reading A → Type 0 where
  read : (a : A) → UnreadOnly numbers (Ok a)
  unread : {r : Refusal} → Memᴰ (number_of r) numbers → UnreadOnly numbers (Err r)

pub and_then-refuses : {first others : List ℕ} {a b : Verdict} →
    RefusesOnly first a → RefusesOnly others b → RefusesOnly (first ++ others) (a and_then b)
and_then-refuses accepts accepts = accepts
and_then-refuses {first} accepts (refuses m) = refuses (Memᴰ.append_right first m)
and_then-refuses {others = others} (refuses m) next = refuses (Memᴰ.append_left others m)

pub both_refuse : {numbers : List ℕ} {a b : Verdict} → RefusesOnly numbers a → RefusesOnly numbers b → RefusesOnly numbers (a and_then b)
both_refuse accepts next = next
both_refuse (refuses m) next = refuses m

-- the tests that refusals hang on
module _ {numbers : List ℕ} (r : Refusal) (listed : Memᴰ (number_of r) numbers) where
  pub refuses_unless : (t : Bool) (next : Verdict) → RefusesOnly numbers next → RefusesOnly numbers (cond t next (Err r))
  refuses_unless true next h = h
  refuses_unless false next h = refuses listed

  pub refuses_if : (t : Bool) → RefusesOnly numbers (cond t (Err r) accepted)
  refuses_if true = refuses listed
  refuses_if false = accepts

pub room_refuses_6 : (needed : ℕ) (buffer : List ℕ) → RefusesOnly (6 ∷ []) (room needed buffer)
unfolding room
room_refuses_6 needed buffer = refuses_unless (ShortBuffer needed) (Memᴰ.head refl) (leb needed (length buffer)) accepted accepts

-- another length, or else the first that fails
pub fails_at : (r : ℕ → Refusal) (numbers : List ℕ) → ((place : ℕ) → Memᴰ (number_of (r place)) numbers) → (fails : ℕ → Bool) (m n : ℕ) →
    RefusesOnly numbers (cond (eqb m n) (cond (ltb (first fails n) n) (Err (r (first fails n))) accepted) (Err (r (min m n))))
fails_at r numbers listed fails m n =
    refuses_unless (r (min m n)) (listed (min m n)) (eqb m n) _ (refuses_if (r (first fails n)) (listed (first fails n)) (ltb (first fails n) n))
