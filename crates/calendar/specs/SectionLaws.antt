-- Code that takes a calendar: how it begins, goes on and ends.
use Rattle.std.specs.Prelude.{ℕ, ◌+◌, ◌≤◌, ◌<◌, true, false, cond, List, [], ◌∷◌, ◌++◌, ◌≡◌, refl, Ok, Err}
use Rattle.std.proofs.Common.{sym, add-one}
use Rattle.std.proofs.Math.Path.{ap}
use Rattle.ranges.specs.Limits
use Rattle.refusals.specs.declared.Refusal.{Refusal}
use Rattle.refusals.specs.declared.Refusal.TheVariants.{NoSuchQuestion}
use Rattle.formats.specs.Formats.{times}
use Rattle.formats.specs.ReaderLaws.{first_refused, then_takes, takes_done, repeats_start, repeats_more, repeats_refused, repeats_end}
use Rattle.formats.specs.Readers.{Left, start_of, Takes}
use Rattle.formats.specs.Taking.{between, take_word, take_end, reading_of}
use Rattle.calendar.specs.CalendarLaws.{free_after_more}
use Rattle.calendar.specs.Calendars.{free_after, each_entry, entries, calendar, calendar_of}
use Rattle.calendar.specs.Dates.{day_number}
use Rattle.calendar.specs.Hours.{ruling, days_to_later, is_question, ruled_at, plan_at_of, plan_at_outcome}
use Rattle.calendar.specs.HoursLaws.{never_open, ruled_with_more}
use Rattle.calendar.specs.Sections.{ruled_with, TakesEntry, EntriesSoFar, TakesEntries}
use Rattle.calendar.specs.declared.Date.{Date}
use Rattle.calendar.specs.declared.PlanDays.{PlanDays}
use Rattle.calendar.specs.declared.entries.DatedEntry.{DatedEntry}

pub entries_begin : (count asked minute : ℕ) (start : Left) → EntriesSoFar count asked minute start start 0 (record { plan = 0; days = 0 }) 0
unfolding free_after ruling days_to_later
entries_begin count asked minute start =
    record { before = []; free_is = refl; ruled_is = rw (never_open minute); repeats = repeats_start each_entry }

module _ {count asked minute : ℕ} {start now : Left} {free : ℕ} {ruled : PlanDays} {i : ℕ}
    (so_far : EntriesSoFar count asked minute start now free ruled i) where
  pub entries_more : {d : DatedEntry} {after : Left} {next : PlanDays} → i < count → TakesEntry now free (Ok d) after →
      next ≡ ruled_with asked minute ruled d.entry → EntriesSoFar count asked minute start after (d.number + 1) next (i + 1)
  entries_more {d} below one next_is =
      record {
        before = so_far.before ++ (d.entry ∷ []);
        free_is = rw (free_after_more 0 so_far.before d.entry, add-one d.number, one.day.numbered);
        ruled_is = rw (next_is, so_far.ruled_is) (ruled_with_more asked minute so_far.before d.entry);
        repeats = repeats_more each_entry so_far.repeats below (rw so_far.free_is at one.takes);
      }

  pub entries_refused : {r : Refusal} {after end : Left} → i < count → TakesEntry now free (Err r) after →
      Takes start (times each_entry count []).take (Err r) end
  entries_refused below one = repeats_refused each_entry so_far.repeats below (rw so_far.free_is at one.takes)

  pub entries_taken : count ≤ i → Takes start (times each_entry count []).take (Ok so_far.before) now
  entries_taken all_taken = repeats_end each_entry so_far.repeats all_taken

  pub entries_end : {from : Left} → Takes from (take_word (between 0 Limits.most_entries)) (Ok count) start → count ≤ i →
      TakesEntries from asked minute (Ok ruled) now
  unfolding entries
  entries_end counted all_taken =
      record {
        taken = so_far.before;
        takes = then_takes _ counted (entries_taken all_taken);
        ruled_is = so_far.ruled_is;
      }

-- what the entries, the end and the question say of the whole list
module _ (words : List ℕ) (d : Date) (minute : ℕ) where
  calendar_refused : {r : Refusal} {after : Left} → Takes (start_of words) calendar.take (Err r) after → Err r ≡ plan_at_outcome words d minute
  unfolding plan_at_outcome calendar_of
  calendar_refused takes = ap (λ t. plan_at_of (reading_of t) d minute) (sym takes.leaves)

  pub entries_turned_down : {asked : ℕ} {r : Refusal} {after : Left} → TakesEntries (start_of words) asked minute (Err r) after →
      Err r ≡ plan_at_outcome words d minute
  unfolding calendar
  entries_turned_down es = calendar_refused {after = start_of words} (first_refused _ es.takes)

  module _ {asked : ℕ} {ruled : PlanDays} {after end : Left} (es : TakesEntries (start_of words) asked minute (Ok ruled) after) where
    pub words_left : {r : Refusal} → Takes after take_end (Err r) end → Err r ≡ plan_at_outcome words d minute
    unfolding calendar
    words_left over = calendar_refused {after = start_of words} (then_takes _ es.takes (first_refused _ over))

    module _ (over : Takes after take_end (Ok tt) end) where
      calendar_taken : Takes (start_of words) calendar.take (Ok es.taken) end
      unfolding calendar
      calendar_taken = then_takes _ es.takes (then_takes _ over (takes_done _))

      answered : plan_at_outcome words d minute ≡
          cond (is_question d minute) (Ok (ruled_at es.taken (day_number d) minute)) (Err NoSuchQuestion)
      unfolding plan_at_outcome calendar_of
      answered = ap (λ t. plan_at_of (reading_of t) d minute) calendar_taken.leaves

      pub no_question : is_question d minute ≡ false → Err NoSuchQuestion ≡ plan_at_outcome words d minute
      no_question none = rw (answered, none)

      pub question_answered : is_question d minute ≡ true → asked ≡ day_number d → Ok ruled ≡ plan_at_outcome words d minute
      question_answered is day = rw (answered, is, es.ruled_is, day)
