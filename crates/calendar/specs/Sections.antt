-- What code holds once it has taken a date, an entry, all entries.
use Rattle.std.specs.Prelude.{ℕ, ◌-◌, ◌≤◌, true, false, cond, List, ◌≡◌, leb, eqb, Option, Result, IfOk, MatchOption}
use Rattle.refusals.specs.declared.Refusal.{Refusal}
use Rattle.formats.specs.Readers.{Left, Takes, mapped, Repeats}
use Rattle.calendar.specs.Calendars.{date_words, hours_words, free_after, entry, each_entry, entries}
use Rattle.calendar.specs.Dates.{InCentury, day_number}
use Rattle.calendar.specs.Hours.{plan_of, ruled_at, is_question}
use Rattle.calendar.specs.declared.Date.{Date}
use Rattle.calendar.specs.declared.Entry.{Entry}
use Rattle.calendar.specs.declared.PlanDays.{PlanDays}
use Rattle.calendar.specs.declared.entries.DatedEntry.{DatedEntry}

-- `days` to a later entry, or where there was none those from `asked` to the day `number`
unfoldable pub days_or_to : ℕ → ℕ → ℕ → ℕ
days_or_to days number asked = cond (eqb days 0) (number - asked) days

-- an entry more has begun, or is the first later one, or comes after that
unfoldable pub ruled_with : ℕ → ℕ → PlanDays → Entry → PlanDays
ruled_with asked minute r e =
    cond (leb (day_number e.date) asked)
    (record { plan = plan_of minute e; days = r.days })
    (record { plan = r.plan; days = days_or_to r.days (day_number e.date) asked })

pub record TakesDate (start : Left) (result : Result Date Refusal) (after : Left) : Type 0 where
  pub takes : Takes start date_words.take result after
  pub within : IfOk result InCentury

pub record TakesHours (start : Left) (from : Date) (result : Result Entry Refusal) (after : Left) : Type 0 where
  pub takes : Takes start (hours_words from).take result after
  pub same_date : IfOk result (λ e. e.date ≡ from)

-- the day of an entry
pub record Numbered (d : DatedEntry) : Type 0 where
  pub numbered : d.number ≡ day_number d.entry.date
  pub number_at_most : d.number ≤ 36524

pub record TakesEntry (start : Left) (free : ℕ) (result : Result DatedEntry Refusal) (after : Left) : Type 0 where
  pub takes : Takes start (entry free).take (mapped (λ d. d.entry) result) after
  pub day : IfOk result Numbered

-- i of `count` entries are taken, `before` are they, and the others follow
pub record EntriesSoFar (count asked minute : ℕ) (start now : Left) (free : ℕ) (ruled : PlanDays) (i : ℕ) : Type 0 where
  pub before : List Entry
  pub free_is : free ≡ free_after 0 before
  pub ruled_is : ruled ≡ ruled_at before asked minute
  pub repeats : Repeats each_entry count i start before now

-- what rules by the entries that were taken
pub record TakesEntries (start : Left) (asked minute : ℕ) (result : Result PlanDays Refusal) (after : Left) : Type 0 where
  pub taken : List Entry
  pub takes : Takes start entries.take (mapped (λ ruled. taken) result) after
  pub ruled_is : IfOk result (λ ruled. ruled ≡ ruled_at taken asked minute)

-- the day asked about, where there is such a question
abbrev pub Asks : Date → ℕ → Option ℕ → Type 0
Asks d minute asked =
    MatchOption asked (is_question d minute ≡ false) (λ day. (is_question d minute ≡ true) × (day ≡ day_number d))
