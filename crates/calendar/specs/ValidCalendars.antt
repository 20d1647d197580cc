-- What holds of a calendar, and the words that it is written in. Nothing here reads: that what is read is valid and written so,
-- and that whatever is valid and written so is read, are laws.
use Rattle.std.specs.Prelude.{ℕ, suc, ◌≤◌, ◌<◌, List, [], ◌∷◌, length, get_or}
use Rattle.ranges.specs.Limits
use Rattle.calendar.specs.Dates.{date, IsDate, DateBefore}
use Rattle.calendar.specs.declared.Entry.{Entry}

pub record ValidEntry (e : Entry) : Type 0 where
  pub dated : IsDate e.date
  -- "Minutes run 0 to 1,440, opening below closing"
  pub opens_before : e.opening < e.closing
  pub closes_by : e.closing ≤ Limits.day_minutes
  -- "plan number 1 to 255"
  pub plan_from : 1 ≤ e.plan
  pub plan_to : e.plan ≤ Limits.most_plan_number

abbrev pub no_entry : Entry
no_entry = record { date = date 0 0 0; opening = 0; closing = 0; plan = 0 }

abbrev pub nth_entry : List Entry → ℕ → Entry
nth_entry es i = get_or es i no_entry

pub record ValidCalendar (es : List Entry) : Type 0 where
  -- "a count, 0 to 200"
  pub count : length es ≤ Limits.most_entries
  pub each : (i : ℕ) → i < length es → ValidEntry (nth_entry es i)
  -- each date is later than the one before
  pub later : (i : ℕ) → suc i < length es → DateBefore (nth_entry es i).date (nth_entry es (suc i)).date

unfoldable pub words_of_entries : List Entry → List ℕ
words_of_entries [] = []
words_of_entries (e ∷ es) =
    e.date.year ∷ e.date.month ∷ e.date.day ∷ e.opening ∷ e.closing ∷ e.plan ∷ words_of_entries es

-- the one list of words that writes a calendar
abbrev pub words_of_calendar : List Entry → List ℕ
words_of_calendar es = length es ∷ words_of_entries es
