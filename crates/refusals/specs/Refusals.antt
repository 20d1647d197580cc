-- Document 01's section 'Refused input', and the numbers that document 02 adds: the number of each refusal, and the place
-- returned with it.
use Rattle.std.specs.Prelude.{ℕ, cond, List, [], ◌∷◌, leb, length, Result, Ok, Err}
use Rattle.refusals.specs.declared.Refusal.{Refusal}
use Rattle.refusals.specs.declared.Refusal.TheVariants.{Text, WordCount, WordRange, SpanTooLong, NoPlan, ShortBuffer, GivenPlan, CoreOverloaded, GivenTable, JobSlots, SwitchingWord, CoreOrState, EarlyEnd, CalendarDate, NoSuchQuestion}

abbrev pub number_of : Refusal → ℕ
-- "text has another byte, a number above 4,294,967,295, or a byte beyond the 4,096th"
number_of (Text place) = 1
-- "the list ends early, or has words left over"
number_of (WordCount place) = 2
-- "a word, a count included, is outside its range or does not rise"
number_of (WordRange place) = 3
-- "a period brings the span over 4,096"
number_of (SpanTooLong place) = 4
-- "no plan keeps every task that may not be refused with all cores fitting"
number_of NoPlan = 5
-- "a lent result buffer is too short"
number_of (ShortBuffer place) = 6
-- "a given plan has another length than the tasks, a choice above M × H, or 0 for a task that may not be refused"
number_of (GivenPlan place) = 7
-- "a core of a given plan does not fit"
number_of (CoreOverloaded place) = 8
-- "a given table has another length than M × L, or a slot other than 0 names no kept task of its core"
number_of (GivenTable place) = 9
-- "a job has more or fewer slots than its ticks between release and due tick"
number_of (JobSlots place) = 10
-- (b) "11, a switching word out of range, place 0 or 1"
number_of (SwitchingWord place) = 11
-- (f) "12, a core out of range, or a state with more ticks left than a job has (any at all, for a task not kept on that core), a tick
-- not below the span, or a last task, other than 0 for none, not kept there, place 0"
number_of CoreOrState = 12
-- (f) "13, an early end reported after an idle tick or before the first, place 0"
number_of EarlyEnd = 13
-- (m) "17, a calendar date that doesn't exist or isn't later than the one before, place its year's index"
number_of (CalendarDate place) = 17
-- (m) "18, a question with no such date or minute, or a year outside 2000 to 2099, place 0"
number_of NoSuchQuestion = 18

abbrev pub place_of : Refusal → ℕ
place_of (Text place) = place
place_of (WordCount place) = place
place_of (WordRange place) = place
place_of (SpanTooLong place) = place
place_of NoPlan = 0
place_of (ShortBuffer place) = place
place_of (GivenPlan place) = place
place_of (CoreOverloaded place) = place
place_of (GivenTable place) = place
place_of (JobSlots place) = place
place_of (SwitchingWord place) = place
place_of CoreOrState = 0
place_of EarlyEnd = 0
place_of (CalendarDate place) = place
place_of NoSuchQuestion = 0

-- every case of a refusal, with one place for all that have one
abbrev pub refusals_at : ℕ → List Refusal
refusals_at place =
    Text place ∷ WordCount place ∷ WordRange place ∷ SpanTooLong place ∷ NoPlan
    ∷ ShortBuffer place ∷ GivenPlan place ∷ CoreOverloaded place ∷ GivenTable place ∷ JobSlots place
    ∷ SwitchingWord place ∷ CoreOrState ∷ EarlyEnd ∷ CalendarDate place ∷ NoSuchQuestion ∷ []

-- the columns "Returned" and "Place returned with it"
pub record Answer : Type 0 where
  pub number : ℕ
  pub place : ℕ

abbrev pub answer : ℕ → ℕ → Answer
answer number place = record { number = number; place = place }

-- what a test answers: that it is passed, or a refusal
abbrev pub Verdict : Type 0
Verdict = Result (Unit {0}) Refusal

abbrev pub accepted : Verdict
accepted = Ok tt

-- what a verdict returns: 0 and 0 where nothing is refused
abbrev pub answer_of : Verdict → Answer
answer_of (Ok tt) = answer 0 0
answer_of (Err r) = answer (number_of r) (place_of r)

-- tests in a row: the first refusal is the one returned
infixr 25 ◌and_then◌
abbrev pub ◌and_then◌ : Verdict → Verdict → Verdict
(Ok tt) and_then next = next
Err r and_then next = Err r

-- 6: "length needed, in the buffer's own elements"
unfoldable pub room : ℕ → List ℕ → Verdict
room needed buffer = cond (leb needed (length buffer)) accepted (Err (ShortBuffer needed))

-- what reading something answers: what was read, or a refusal
abbrev pub Reading : Type 0 → Type 0
Reading A = Result A Refusal

-- whether something was read, or why not
abbrev pub verdict_of : {A : Type 0} → Reading A → Verdict
verdict_of (Ok a) = accepted
verdict_of (Err r) = Err r
