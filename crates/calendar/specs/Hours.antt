-- Document 02 (m): which plan a calendar has for a day and a minute, and how far the next entry is.
use Rattle.refusals.specs.declared.Refusal.{Refusal}
use Rattle.std.specs.Prelude.{ℕ, ◌-◌, ◌<◌, Bool, cond, ◌&&◌, List, [], ◌∷◌, leb, ltb, Result, Ok, Err}
use Rattle.ranges.specs.Limits
use Rattle.refusals.specs.Endings.{Ends, read_then}
use Rattle.refusals.specs.Refusals.{Reading, accepted, verdict_of}
use Rattle.refusals.specs.declared.Refusal.TheVariants.{NoSuchQuestion}
use Rattle.formats.specs.Taking.{between}
use Rattle.calendar.specs.Calendars.{calendar_of}
use Rattle.calendar.specs.Dates.{IsDate, month_length, day_number}
use Rattle.calendar.specs.ValidCalendars.{no_entry}
use Rattle.calendar.specs.declared.Date.{Date}
use Rattle.calendar.specs.declared.Entry.{Entry}
use Rattle.calendar.specs.declared.PlanDays.{PlanDays}

-- "An entry rules from its date until the day before the next one": the last whose date is not after the day, or `before`
unfoldable pub ruling : ℕ → Entry → List Entry → Entry
ruling day before [] = before
ruling day before (e ∷ es) = ruling day (cond (leb (day_number e.date) day) e before) es

-- "Its plan holds from the opening minute up to, but without, the closing one; otherwise .. plan 0."
unfoldable pub plan_of : ℕ → Entry → ℕ
plan_of minute e = cond (leb e.opening minute && ltb minute e.closing) e.plan 0

-- "the days to the first entry of a later date, 0 where none follows"
unfoldable pub days_to_later : ℕ → List Entry → ℕ
days_to_later day [] = 0
days_to_later day (e ∷ es) = cond (ltb day (day_number e.date)) (day_number e.date - day) (days_to_later day es)

-- before the first entry rules one that is never open
abbrev pub ruled_at : List Entry → ℕ → ℕ → PlanDays
ruled_at es day minute = record { plan = plan_of minute (ruling day no_entry es); days = days_to_later day es }

unfoldable pub in_century : Date → Bool
in_century d =
    between Limits.first_year Limits.last_year d.year && (between 1 Limits.months d.month && between 1 Limits.most_day d.day)

-- "18, a question with no such date or minute, or a year outside 2000 to 2099"
unfoldable pub is_question : Date → ℕ → Bool
is_question d minute = in_century d && (leb d.day (month_length d.year d.month) && ltb minute Limits.day_minutes)

-- the same for people: an existing date, and a minute from 0 to 1,439
pub record IsQuestion (d : Date) (minute : ℕ) : Type 0 where
  pub dated : IsDate d
  pub minute_of_day : minute < Limits.day_minutes

abbrev pub plan_at_of : Reading (List Entry) → Date → ℕ → Result PlanDays Refusal
plan_at_of (Err r) d minute = Err r
plan_at_of (Ok es) d minute =
    cond (is_question d minute) (Ok (ruled_at es (day_number d) minute)) (Err NoSuchQuestion)

-- the whole outcome, for every list of words and every question
unfoldable pub plan_at_outcome : List ℕ → Date → ℕ → Result PlanDays Refusal
plan_at_outcome words d minute = plan_at_of (calendar_of words) d minute

-- "2 and 3 apply .. word by word. Turned away: 17 ..; then 18"
abbrev pub AskingEnds : List ℕ → Date → ℕ → Result PlanDays Refusal → Type 0
AskingEnds words d minute answer =
    Ends
    (read_then (calendar_of words) (λ es. cond (is_question d minute) accepted (Err NoSuchQuestion)))
    (2 ∷ 3 ∷ 17 ∷ 18 ∷ [])
    []
    (verdict_of answer)
