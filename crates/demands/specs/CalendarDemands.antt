-- Document 02 (m), "Opening hours": what is promised of the plan and the days that a calendar answers. Dates, calendars and the
-- answer are defined in crate `calendar`.
use Rattle.std.specs.Prelude.{ℕ, suc, ◌+◌, ◌≤◌, ◌<◌, List, ◌⊎◌, ◌↔◌, ◌≡◌, length, Ok, Err}
use Rattle.std.proofs.Common.{inl, inr, ap, arith}
use Rattle.laws.specs.Below.{lt_or_le}
use Rattle.laws.specs.Truth.{not_true_is_false}
use Rattle.refusals.specs.declared.Refusal.TheVariants.{NoSuchQuestion}
use Rattle.calendar.specs.CalendarLaws.{Dated, valid_dated, read_calendar_is_valid}
use Rattle.calendar.specs.Calendars.{calendar_of}
use Rattle.calendar.specs.DateLaws.{day_numbers_rise, later_day_is_after, one_date_a_day, next_day_is_one_later, day_0_is_1_january_2000, day_36494_is_1_december_2099}
use Rattle.calendar.specs.DayLaws.{every_day_has_a_date}
use Rattle.calendar.specs.Dates.{date, month_length, InCentury, IsDate, day_number, DateBefore, NextDay}
use Rattle.calendar.specs.Hours.{plan_of, ruled_at, IsQuestion, plan_at_outcome}
use Rattle.calendar.specs.HoursLaws.{question_iff, planning_while_open, no_plan_before_opening, no_plan_from_closing, never_open}
use Rattle.calendar.specs.RulingLaws.{RulesDay, none_begun, last_begun, one_rules, some_rules, days_to_first_later, no_days_where_none_later}
use Rattle.calendar.specs.ValidCalendars.{ValidCalendar, no_entry, nth_entry}
use Rattle.calendar.specs.declared.Date.{Date}
use Rattle.calendar.specs.declared.Entry.{Entry}
use Rattle.calendar.specs.declared.PlanDays.{PlanDays}
use Rattle.text.specs.Text.{words_of}
use Rattle.towhepamu.specs.CallOutcomes.{text_plan_at_outcome}

-- "Dates are Gregorian, 1 January 2000 being day 0"
pub record DatesCounted : Type 0 where
  -- of the words that a date may be, those are dates whose day is at most their month's length
  pub exists : (d : Date) → InCentury d → IsDate d ↔ (d.day ≤ month_length d.year d.month)
  pub first : day_number (date 2000 1 1) ≡ 0
  pub last_month : day_number (date 2099 12 1) ≡ 36494
  pub next_is_one_more : (a b : Date) → IsDate a → NextDay a b → day_number b ≡ suc (day_number a)
  pub later_is_more : (a b : Date) → IsDate a → IsDate b → DateBefore a b → day_number a < day_number b
  -- each day from 1 January 2000 to 31 December 2099 has one date
  pub one_date_a_day : (a b : Date) → IsDate a → IsDate b → day_number a ≡ day_number b → a ≡ b
  pub every_day_has_a_date : (n : ℕ) → n < 36525 → (d : Date) × IsDate d × (day_number d ≡ n)

pub dates_are_counted : DatesCounted
dates_are_counted =
    record {
      exists = λ d within. (λ is. is.day_in_month, λ fits. record { within_century = within; day_in_month = fits });
      first = day_0_is_1_january_2000;
      last_month = day_36494_is_1_december_2099;
      next_is_one_more = λ a b. next_day_is_one_later;
      later_is_more = day_numbers_rise;
      one_date_a_day = one_date_a_day;
      every_day_has_a_date = every_day_has_a_date;
    }

-- "An entry rules from its date until the day before the next one."
pub record Rules (es : List Entry) (d : Date) (i : ℕ) : Type 0 where
  pub is_entry : i < length es
  pub from_its_date : DateBefore d (nth_entry es i).date → ⊥
  pub before_next : suc i < length es → DateBefore d (nth_entry es (suc i)).date

abbrev pub BeforeFirst : List Entry → Date → Type 0
BeforeFirst es d = 0 < length es → DateBefore d (nth_entry es 0).date

-- what a calendar answers for a date and a minute
pub record AnswersQuestion (es : List Entry) (d : Date) (minute : ℕ) (answer : PlanDays) : Type 0 where
  -- one entry rules, or the date is before the first one
  pub one_rules : BeforeFirst es d ⊎ ((i : ℕ) × Rules es d i)
  pub no_two_rule : (i j : ℕ) → Rules es d i → Rules es d j → i ≡ j
  -- "Its plan holds from the opening minute up to, but without, the closing one; otherwise, and before the first entry, plan 0."
  pub while_open : (i : ℕ) → Rules es d i → (nth_entry es i).opening ≤ minute → minute < (nth_entry es i).closing → answer.plan ≡ (nth_entry es i).plan
  pub before_opening : (i : ℕ) → Rules es d i → minute < (nth_entry es i).opening → answer.plan ≡ 0
  pub from_closing : (i : ℕ) → Rules es d i → (nth_entry es i).closing ≤ minute → answer.plan ≡ 0
  pub before_first : BeforeFirst es d → answer.plan ≡ 0
  -- "the days to the first entry of a later date, 0 where none follows"
  pub days_to_next : (i : ℕ) → i < length es → DateBefore d (nth_entry es i).date → ((j : ℕ) → j < i → DateBefore d (nth_entry es j).date → ⊥) →
      day_number d + answer.days ≡ day_number (nth_entry es i).date
  pub none_follows : ((i : ℕ) → i < length es → DateBefore d (nth_entry es i).date → ⊥) → answer.days ≡ 0

-- of every calendar that is read, and every question
pub record CalendarAnswers (words : List ℕ) (es : List Entry) : Type 0 where
  pub answered : (d : Date) (minute : ℕ) → IsQuestion d minute →
      (answer : PlanDays) × (plan_at_outcome words d minute ≡ Ok answer) × AnswersQuestion es d minute answer
  -- 18 exactly for what is no question
  pub no_question : (d : Date) (minute : ℕ) → (IsQuestion d minute → ⊥) → plan_at_outcome words d minute ≡ Err NoSuchQuestion
  -- the call from C for a text of these words answers the same
  pub from_text : (text : List ℕ) → words_of text ≡ Ok words → (d : Date) (minute : ℕ) →
      text_plan_at_outcome text d minute ≡ plan_at_outcome words d minute

module _ (es : List Entry) (valid : ValidCalendar es) (d : Date) (dated : IsDate d) where
  dates_rise : Dated 0 es
  dates_rise = valid_dated 0 es valid.each valid.later (λ some. omega arith)

  day_before : (i : ℕ) → i < length es → DateBefore d (nth_entry es i).date → day_number d < day_number (nth_entry es i).date
  day_before i below = day_numbers_rise d (nth_entry es i).date dated (valid.each i below).dated

  date_before : (i : ℕ) → i < length es → day_number d < day_number (nth_entry es i).date → DateBefore d (nth_entry es i).date
  date_before i below = later_day_is_after d (nth_entry es i).date dated (valid.each i below).dated

  day_from : (i : ℕ) → i < length es → (DateBefore d (nth_entry es i).date → ⊥) → day_number (nth_entry es i).date ≤ day_number d
  day_from i below not_before = go (lt_or_le (day_number d) (day_number (nth_entry es i).date))
    where
      go : (day_number d < day_number (nth_entry es i).date) ⊎ (day_number (nth_entry es i).date ≤ day_number d) →
          day_number (nth_entry es i).date ≤ day_number d
      go (inl less) = absurd (not_before (date_before i below less))
      go (inr most) = most

  by_day : (i : ℕ) → Rules es d i → RulesDay es (day_number d) i
  by_day i rules =
      record {
        is_entry = rules.is_entry;
        begun = day_from i rules.is_entry rules.from_its_date;
        until_next = λ more. day_before (suc i) more (rules.before_next more);
      }

  by_date : (i : ℕ) → RulesDay es (day_number d) i → Rules es d i
  by_date i rules =
      record {
        is_entry = rules.is_entry;
        from_its_date = λ before. omega (arith, day_before i rules.is_entry before, rules.begun);
        before_next = λ more. date_before (suc i) more (rules.until_next more);
      }

  ruled_plan : (minute i : ℕ) → Rules es d i → (ruled_at es (day_number d) minute).plan ≡ plan_of minute (nth_entry es i)
  ruled_plan minute i rules = ap (plan_of minute) (last_begun (day_number d) no_entry dates_rise i (by_day i rules))

  answers_question : (minute : ℕ) → AnswersQuestion es d minute (ruled_at es (day_number d) minute)
  answers_question minute =
      record {
        one_rules = go (some_rules (day_number d) dates_rise);
        no_two_rule = λ i j first second.
            let one = one_rules (day_number d) dates_rise i j (by_day i first) (by_day j second) in
            let other = one_rules (day_number d) dates_rise j i (by_day j second) (by_day i first) in
            omega arith;
        while_open = λ i rules opened still. rw (ruled_plan minute i rules) (planning_while_open minute (nth_entry es i) opened still);
        before_opening = λ i rules early. rw (ruled_plan minute i rules) (no_plan_before_opening minute (nth_entry es i) early);
        from_closing = λ i rules late. rw (ruled_plan minute i rules) (no_plan_from_closing minute (nth_entry es i) late);
        before_first = λ early.
            rw (none_begun (day_number d) no_entry dates_rise (λ some. day_before 0 some (early some))) (never_open minute);
        days_to_next = λ i below later begun.
            days_to_first_later (day_number d) es i below (day_before i below later) (λ j less. day_from j (omega arith) (begun j less));
        none_follows = λ begun. no_days_where_none_later (day_number d) es (λ i below. day_from i below (begun i below));
      }
    where
      go : (0 < length es → day_number d < day_number (nth_entry es 0).date) ⊎ ((i : ℕ) × RulesDay es (day_number d) i) →
          BeforeFirst es d ⊎ ((i : ℕ) × Rules es d i)
      go (inl early) = inl (λ some. date_before 0 some (early some))
      go (inr (i, rules)) = inr (i, by_date i rules)

pub calendar_answers : (words : List ℕ) (es : List Entry) → calendar_of words ≡ Ok es → CalendarAnswers words es
unfolding plan_at_outcome text_plan_at_outcome
calendar_answers words es read =
    record {
      answered = λ d minute question.
          (ruled_at es (day_number d) minute, rw (read, (question_iff d minute).1 question), answers_question es (read_calendar_is_valid words read) d question.dated minute);
      no_question = λ d minute none. rw (read, not_true_is_false _ (λ is. none ((question_iff d minute).0 is)));
      from_text = λ text of_text d minute. rw of_text;
    }
