-- Document 02 (m): the words of a calendar, taken from the front, each tested for 2 and 3, and each entry then for 17.
use Rattle.std.specs.Prelude.{ℕ, suc, Bool, ◌&&◌, List, [], ◌∷◌, refl, leb}
use Rattle.ranges.specs.Limits
use Rattle.refusals.specs.Refusals.{Reading}
use Rattle.refusals.specs.declared.Refusal.TheVariants.{CalendarDate}
use Rattle.formats.specs.Formats.{◌>>=◌, done, word, tested, times, end}
use Rattle.formats.specs.Taking.{reading_of}
use Rattle.formats.specs.Written.{Format}
use Rattle.calendar.specs.Dates.{date, month_length, day_number}
use Rattle.calendar.specs.declared.Date.{Date}
use Rattle.calendar.specs.declared.Entry.{Entry}

-- 17 is the number of the one test that is not of a word alone
abbrev pub CalendarFormat : Type 0 → Type 1
CalendarFormat A = Format 17 A

-- "year (2000 to 2099), month (1 to 12), day (1 to 31)"
unfoldable pub date_words : CalendarFormat Date
date_words = do
  year ← word Limits.first_year Limits.last_year
  month ← word 1 Limits.months
  day ← word 1 Limits.most_day
  done (date year month day)

-- "opening minute, closing minute, plan number 1 to 255. Minutes run 0 to 1,440, opening below closing, else 3 at the closing
-- word."
unfoldable pub hours_words : Date → CalendarFormat Entry
hours_words from = do
  opening ← word 0 Limits.day_minutes
  closing ← word (suc opening) Limits.day_minutes
  plan ← word 1 Limits.most_plan_number
  done (record { date = from; opening = opening; closing = closing; plan = plan })

abbrev pub entry_words : CalendarFormat Entry
entry_words = date_words >>= hours_words

-- the first day after the entries
unfoldable pub free_after : ℕ → List Entry → ℕ
free_after free [] = free
free_after free (e ∷ es) = free_after (suc (day_number e.date)) es

-- the date exists, and is no day before `free`
unfoldable pub may_follow : ℕ → Date → Bool
may_follow free d = leb d.day (month_length d.year d.month) && leb free (day_number d)

-- "17, a calendar date that doesn't exist or isn't later than the one before, place its year's index, once its entry's words
-- have passed 2 and 3"
unfoldable pub entry : ℕ → CalendarFormat Entry
entry free = tested entry_words (λ e. may_follow free e.date) CalendarDate (λ at. refl) (λ at. refl)

-- each entry, after those before it
abbrev pub each_entry : List Entry → CalendarFormat Entry
each_entry before = entry (free_after 0 before)

-- "a count, 0 to 200, then for each entry .."
unfoldable pub entries : CalendarFormat (List Entry)
entries = do
  count ← word 0 Limits.most_entries
  times each_entry count []

-- no word is left over
unfoldable pub calendar : CalendarFormat (List Entry)
calendar = do
  es ← entries
  nothing ← end
  done es

-- the calendar that a list of words is
unfoldable pub calendar_of : List ℕ → Reading (List Entry)
calendar_of words = reading_of (calendar.take 0 words)
