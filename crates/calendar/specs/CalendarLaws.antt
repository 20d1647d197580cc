-- Reading accepts exactly the words that write valid calendars, each as the calendar that it writes.
use Rattle.std.specs.Prelude.{ℕ, zero, suc, ◌≤◌, ◌<◌, true, List, [], ◌∷◌, ◌++◌, ◌≡◌, refl, leb, length, Ok}
use Rattle.std.proofs.Common.{append-nil, le_of_suc-le-suc, arith, leb-true, le-leb}
use Rattle.laws.specs.Truth.{and_is_true}
use Rattle.ranges.specs.Limits
use Rattle.formats.specs.ReadingLaws.{read_is_written, written_is_read}
use Rattle.formats.specs.Taking.{between}
use Rattle.formats.specs.TimesLaws.{Many, times_written, many_written}
use Rattle.formats.specs.TimesLaws as TimesLaws
use Rattle.formats.specs.WordLaws.{between_passes}
use Rattle.formats.specs.Written.{Written, then, nothing}
use Rattle.formats.specs.Written as Written
use Rattle.calendar.specs.Calendars.{date_words, hours_words, entry_words, free_after, may_follow, entry, each_entry, entries, calendar, calendar_of}
use Rattle.calendar.specs.DateLaws.{day_numbers_rise, later_day_is_after}
use Rattle.calendar.specs.Dates.{IsDate, InCentury, month_length, day_number, DateBefore}
use Rattle.calendar.specs.ValidCalendars.{ValidEntry, ValidCalendar, nth_entry, words_of_entries, words_of_calendar}
use Rattle.calendar.specs.declared.Date.{Date}
use Rattle.calendar.specs.declared.Entry.{Entry}

-- valid entries, each on a later day than the one before, the first not before `free`
pub data Dated : ℕ → List Entry → Type 0 where
  none : {free : ℕ} → Dated free []
  one : {free : ℕ} (e : Entry) {es : List Entry} → ValidEntry e → free ≤ day_number e.date → Dated (suc (day_number e.date)) es →
      Dated free (e ∷ es)

pub within : {low high w : ℕ} → between low high w ≡ true → (low ≤ w) × (w ≤ high)
unfolding between
within {low} {high} {w} passes =
    let both = (and_is_true (leb low w) (leb w high)).0 passes in (leb-true low w both.0, leb-true w high both.1)

pub free_after_more : (free : ℕ) (es : List Entry) (e : Entry) → free_after free (es ++ (e ∷ [])) ≡ suc (day_number e.date)
unfolding free_after
free_after_more free [] e = refl
free_after_more free (f ∷ es) e = free_after_more (suc (day_number f.date)) es e

abbrev EachEntry : List Entry → Written Entry
EachEntry before = (each_entry before).Writes

date_read : {d : Date} {words : List ℕ} (rest : List ℕ) → date_words.Writes d words rest →
    InCentury d × (words ≡ d.year ∷ d.month ∷ d.day ∷ rest)
unfolding date_words
date_read rest (then (Written.word y y_in) (then (Written.word m m_in) (then (Written.word d d_in) nothing))) = (
  record {
    from_year = (within y_in).0;
    to_year = (within y_in).1;
    from_month = (within m_in).0;
    to_month = (within m_in).1;
    from_day = (within d_in).0;
    to_day = (within d_in).1;
  },
  refl,
)

-- what an entry's words say of it, once each has passed
record EntryRead (e : Entry) (words rest : List ℕ) : Type 0 where
  within_century : InCentury e.date
  opens_before : e.opening < e.closing
  closes_by : e.closing ≤ Limits.day_minutes
  plan_from : 1 ≤ e.plan
  plan_to : e.plan ≤ Limits.most_plan_number
  written : words ≡ e.date.year ∷ e.date.month ∷ e.date.day ∷ e.opening ∷ e.closing ∷ e.plan ∷ rest

entry_read : {e : Entry} {words : List ℕ} (rest : List ℕ) → entry_words.Writes e words rest → EntryRead e words rest
unfolding hours_words
entry_read rest (then dated (then (Written.word o o_in) (then (Written.word c c_in) (then (Written.word p p_in) nothing)))) =
    let first = date_read _ dated in
    record {
      within_century = first.0;
      opens_before = (within c_in).0;
      closes_by = (within c_in).1;
      plan_from = (within p_in).0;
      plan_to = (within p_in).1;
      written = first.1;
    }

follows_read : (free : ℕ) (d : Date) → InCentury d → may_follow free d ≡ true → IsDate d × (free ≤ day_number d)
unfolding may_follow
follows_read free d century follows =
    let both = (and_is_true (leb d.day (month_length d.year d.month)) (leb free (day_number d))).0 follows in
    (record { within_century = century; day_in_month = leb-true _ _ both.0 }, leb-true _ _ both.1)

entries_dated : {before es : List Entry} {words rest : List ℕ} → Many EachEntry before es words rest →
    Dated (free_after 0 before) es × (words ≡ words_of_entries es ++ rest)
unfolding entry words_of_entries
entries_dated TimesLaws.none = (none, refl)
entries_dated {before} (TimesLaws.one e (Written.tested words_of follows) others) =
    let more = rw (free_after_more 0 before e) at (entries_dated others) in
    let here = entry_read _ words_of in
    let date = follows_read (free_after 0 before) e.date here.within_century follows in (
      one e
          (record { dated = date.0; opens_before = here.opens_before; closes_by = here.closes_by; plan_from = here.plan_from; plan_to = here.plan_to })
          date.1
          more.0,
      rw (here.written, more.1),
    )

dated_entries : (before : List Entry) {free : ℕ} {es : List Entry} (rest : List ℕ) → free_after 0 before ≡ free → Dated free es →
    Many EachEntry before es (words_of_entries es ++ rest) rest
unfolding entry date_words hours_words may_follow words_of_entries
dated_entries before rest is none = TimesLaws.none
dated_entries before rest is (one e v free others) =
    let century = v.dated.within_century in
    let opens : between 0 Limits.day_minutes e.opening ≡ true = between_passes _ _ _ (omega arith) (omega (arith, v.opens_before, v.closes_by)) in
    let follows : may_follow (free_after 0 before) e.date ≡ true =
    (and_is_true (leb e.date.day (month_length e.date.year e.date.month)) (leb (free_after 0 before) (day_number e.date))).1
    (le-leb _ _ v.dated.day_in_month, rw is (le-leb _ _ free)) in
    TimesLaws.one e
    (Written.tested
    (then
    (then (Written.word _ (between_passes _ _ _ century.from_year century.to_year))
    (then (Written.word _ (between_passes _ _ _ century.from_month century.to_month))
    (then (Written.word _ (between_passes _ _ _ century.from_day century.to_day)) nothing)))
    (then (Written.word _ opens)
    (then (Written.word _ (between_passes _ _ _ v.opens_before v.closes_by))
    (then (Written.word _ (between_passes _ _ _ v.plan_from v.plan_to)) nothing))))
    follows)
    (dated_entries (before ++ (e ∷ [])) rest (free_after_more 0 before e) others)

dated_each : {free : ℕ} {es : List Entry} → Dated free es → (i : ℕ) → i < length es → ValidEntry (nth_entry es i)
dated_each none i below = absurd (omega arith)
dated_each (one e v free others) zero below = v
dated_each (one e v free others) (suc i) below = dated_each others i (le_of_suc-le-suc below)

dated_later : {free : ℕ} {es : List Entry} → Dated free es →
    (i : ℕ) → suc i < length es → DateBefore (nth_entry es i).date (nth_entry es (suc i)).date
dated_later none i below = absurd (omega arith)
dated_later (one e v free none) zero below = absurd (omega arith)
dated_later (one e v free (one f w later others)) zero below = later_day_is_after e.date f.date v.dated w.dated later
dated_later (one e v free others) (suc i) below = dated_later others i (le_of_suc-le-suc below)

pub valid_dated : (free : ℕ) (es : List Entry) → ((i : ℕ) → i < length es → ValidEntry (nth_entry es i)) →
    ((i : ℕ) → suc i < length es → DateBefore (nth_entry es i).date (nth_entry es (suc i)).date) →
    (0 < length es → free ≤ day_number (nth_entry es 0).date) → Dated free es
valid_dated free [] each later starts = none
valid_dated free (e ∷ es) each later starts =
    one e (each 0 (omega arith)) (starts (omega arith))
    (valid_dated (suc (day_number e.date)) es
    (λ i below. each (suc i) (omega arith))
    (λ i below. later (suc i) (omega arith))
    (λ some. day_numbers_rise e.date (nth_entry es 0).date (each 0 (omega arith)).dated (each 1 (omega arith)).dated (later 0 (omega arith))))

dated_is_valid : {es : List Entry} {count : ℕ} {words : List ℕ} → Dated 0 es → length es ≡ count → count ≤ Limits.most_entries →
    words ≡ words_of_entries es ++ [] → ValidCalendar es × (count ∷ words ≡ words_of_calendar es)
dated_is_valid dated counted few written =
    (record { count = rw counted few; each = dated_each dated; later = dated_later dated }, rw (← counted, written, append-nil))

calendar_read : {es : List Entry} {words : List ℕ} (rest : List ℕ) → calendar.Writes es words rest → ValidCalendar es × (words ≡ words_of_calendar es)
unfolding calendar entries free_after
calendar_read rest (then (then (Written.word count in_range) some_entries) (then Written.EndWrites.ended nothing)) =
    let read = times_written each_entry count [] some_entries in
    let dated = entries_dated read.many in
    rw read.are (dated_is_valid dated.0 read.count (within in_range).1 dated.1)

calendar_writes : {es : List Entry} → ValidCalendar es → calendar.Writes es (words_of_calendar es) []
unfolding calendar entries free_after
calendar_writes {es} v =
    let dated = dated_entries [] [] refl (valid_dated 0 es v.each v.later (λ some. omega arith)) in
    then (then (Written.word _ (between_passes _ _ _ (omega arith) v.count)) (rw append-nil at (many_written each_entry dated)))
    (then Written.EndWrites.ended nothing)

pub read_calendar_is_valid : (words : List ℕ) {es : List Entry} → calendar_of words ≡ Ok es → ValidCalendar es
unfolding calendar_of
read_calendar_is_valid words e = (calendar_read _ (read_is_written calendar words e).1).0

pub read_calendar_is_written : (words : List ℕ) {es : List Entry} → calendar_of words ≡ Ok es → words ≡ words_of_calendar es
unfolding calendar_of
read_calendar_is_written words e = (calendar_read _ (read_is_written calendar words e).1).1

pub valid_calendar_is_read : {es : List Entry} → ValidCalendar es → calendar_of (words_of_calendar es) ≡ Ok es
unfolding calendar_of
valid_calendar_is_read v = written_is_read calendar (calendar_writes v)
