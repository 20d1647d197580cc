-- What rules with one entry more, and how asking ends.
use Rattle.refusals.specs.declared.Refusal.{Refusal}
use Rattle.std.specs.Prelude.{ℕ, ◌-◌, ◌≤◌, ◌<◌, Bool, ◌&&◌, ◌⊎◌, ◌↔◌, ◌≡◌, leb, eqb, Result, Ok, Err}
use Rattle.std.proofs.Math.Bool.{true, false, cond, and-false}
use mathlib.Core.List.Memᴰ
use mathlib.Core.List.{List, [], ◌∷◌, ◌++◌}
use Rattle.std.proofs.Common.{inl, inr, arith}
use Rattle.std.proofs.Math.Path.{refl}
use Rattle.std.proofs.Math.Dec.{ltb}
use Rattle.std.specs.Ordering.{as_partial_cmp, nat_cmp, partial_le, partial_lt}
use borrow.Author.Tests.{ltb-true, le-leb, lt-leb, lt-ltb, le-ltb, leb-true, eq-eqb, ne_eqb}
use Rattle.laws.specs.Below.{lt_or_le}
use Rattle.laws.specs.Truth.{and_is_true}
use Rattle.ranges.specs.Limits
use Rattle.refusals.specs.EndingLaws.{serves, turns_down}
use Rattle.refusals.specs.Endings.{Ends, read_then}
use Rattle.refusals.specs.RefusalNumbers.{UnreadOnly, read, unread}
use Rattle.refusals.specs.Refusals.{Reading, accepted, verdict_of}
use Rattle.refusals.specs.declared.Refusal.TheVariants.{NoSuchQuestion}
use Rattle.formats.specs.Taking.{between}
use Rattle.formats.specs.WordLaws.{between_passes}
use Rattle.formats.specs.ReadingLaws.{reading_refuses_2_3_fault}
use Rattle.calendar.specs.Calendars.{calendar, calendar_of}
use Rattle.calendar.specs.CalendarLaws.{within}
use Rattle.calendar.specs.Dates.{InCentury, month_length, day_number}
use Rattle.calendar.specs.Hours.{ruling, plan_of, days_to_later, ruled_at, in_century, is_question, IsQuestion, plan_at_of, plan_at_outcome, AskingEnds}
use Rattle.calendar.specs.Sections.{days_or_to, ruled_with}
use Rattle.calendar.specs.ValidCalendars.{no_entry}
use Rattle.calendar.specs.declared.Date.{Date}
use Rattle.calendar.specs.declared.Entry.{Entry}
use Rattle.calendar.specs.declared.PlanDays.{PlanDays}

ruling_more : (day : ℕ) (before : Entry) (es : List Entry) (e : Entry) →
    ruling day before (es ++ (e ∷ [])) ≡ cond (leb (day_number e.date) day) e (ruling day before es)
unfolding ruling
ruling_more day before [] e = refl
ruling_more day before (f ∷ es) e = ruling_more day (cond (leb (day_number f.date) day) f before) es e

module _ (day : ℕ) (e : Entry) where
  begun_keeps_days : day_number e.date ≤ day → (es : List Entry) → days_to_later day (es ++ (e ∷ [])) ≡ days_to_later day es
  unfolding days_to_later
  begun_keeps_days begun [] = rw (le-ltb day (day_number e.date) begun)
  begun_keeps_days begun (f ∷ es) = rw (begun_keeps_days begun es)

  later_adds_days : day < day_number e.date → (es : List Entry) →
      days_to_later day (es ++ (e ∷ [])) ≡ cond (eqb (days_to_later day es) 0) (day_number e.date - day) (days_to_later day es)
  unfolding days_to_later
  later_adds_days later [] = rw (lt-ltb day (day_number e.date) later)
  later_adds_days later (f ∷ es) = go (ltb day (day_number f.date)) refl (later_adds_days later es)
    where
      go : (t : Bool) → ltb day (day_number f.date) ≡ t →
          days_to_later day (es ++ (e ∷ [])) ≡ cond (eqb (days_to_later day es) 0) (day_number e.date - day) (days_to_later day es) →
          cond t (day_number f.date - day) (days_to_later day (es ++ (e ∷ [])))
          ≡ cond (eqb (cond t (day_number f.date - day) (days_to_later day es)) 0) (day_number e.date - day) (cond t (day_number f.date - day) (days_to_later day es))
      go true is others = rw (ne_eqb (day_number f.date - day) 0 (λ none. omega (arith, ltb-true day (day_number f.date) is)))
      go false is others = others

pub ruled_with_more : (asked minute : ℕ) (es : List Entry) (e : Entry) →
    ruled_with asked minute (ruled_at es asked minute) e ≡ ruled_at (es ++ (e ∷ [])) asked minute
unfolding days_or_to ruled_with
ruled_with_more asked minute es e = go (lt_or_le asked (day_number e.date))
  where
    go : (asked < day_number e.date) ⊎ (day_number e.date ≤ asked) →
        ruled_with asked minute (ruled_at es asked minute) e ≡ ruled_at (es ++ (e ∷ [])) asked minute
    go (inl later) =
        rw (lt-leb (day_number e.date) asked later, ruling_more asked no_entry es e, lt-leb (day_number e.date) asked later, later_adds_days asked e later es)
    go (inr begun) =
        rw (le-leb (day_number e.date) asked begun, ruling_more asked no_entry es e, le-leb (day_number e.date) asked begun, begun_keeps_days asked e begun es)

module _ (minute : ℕ) (e : Entry) where
  pub planning_while_open : e.opening ≤ minute → minute < e.closing → plan_of minute e ≡ e.plan
  unfolding plan_of
  planning_while_open opened still = rw (le-leb e.opening minute opened, lt-ltb minute e.closing still)

  pub no_plan_before_opening : minute < e.opening → plan_of minute e ≡ 0
  unfolding plan_of
  no_plan_before_opening early = rw (lt-leb e.opening minute early)

  pub no_plan_from_closing : e.closing ≤ minute → plan_of minute e ≡ 0
  unfolding plan_of
  no_plan_from_closing late = rw (le-ltb minute e.closing late, and-false)

pub never_open : (minute : ℕ) → plan_of minute no_entry ≡ 0
never_open minute = no_plan_from_closing minute no_entry (omega arith)

pub in_century_says : (d : Date) → in_century d ≡ true → InCentury d
unfolding in_century
in_century_says d is =
    let both = (and_is_true (between Limits.first_year Limits.last_year d.year) _).0 is in
    let others = (and_is_true (between 1 Limits.months d.month) (between 1 Limits.most_day d.day)).0 both.1 in
    record {
      from_year = (within both.0).0;
      to_year = (within both.0).1;
      from_month = (within others.0).0;
      to_month = (within others.0).1;
      from_day = (within others.1).0;
      to_day = (within others.1).1;
    }

says_in_century : (d : Date) → InCentury d → in_century d ≡ true
unfolding in_century
says_in_century d c =
    rw (between_passes _ _ _ c.from_year c.to_year, between_passes _ _ _ c.from_month c.to_month, between_passes _ _ _ c.from_day c.to_day)

-- what `<=` says of two words, and what a range `low..=high` says of one that it is asked about
le_is_leb : (a b : ℕ) → partial_le (as_partial_cmp nat_cmp) a b ≡ leb a b
le_is_leb a b = go (lt_or_le a b) (lt_or_le b a)
  where
    go : (a < b) ⊎ (b ≤ a) → (b < a) ⊎ (a ≤ b) → partial_le (as_partial_cmp nat_cmp) a b ≡ leb a b
    go (inl less) other = rw (lt-ltb a b less, le-leb a b (omega arith))
    go (inr most) (inl more) = rw (le-ltb a b most, ne_eqb a b (λ same. omega arith), lt-leb a b more)
    go (inr most) (inr least) = rw (le-ltb a b most, eq-eqb a b (omega arith), le-leb a b least)

pub contains_is_between : (low high w : ℕ) {start end : ℕ} {exhausted contains : Bool} → start ≡ low → end ≡ high → exhausted ≡ false →
    contains ≡ partial_le (as_partial_cmp nat_cmp) start w
    && cond exhausted (partial_lt (as_partial_cmp nat_cmp) w end) (partial_le (as_partial_cmp nat_cmp) w end) →
    contains ≡ between low high w
unfolding between
contains_is_between low high w starts ends fresh is = rw (is, starts, ends, fresh, le_is_leb low w, le_is_leb w high)

pub question_iff : (d : Date) (minute : ℕ) → (is_question d minute ≡ true) ↔ IsQuestion d minute
unfolding is_question
question_iff d minute = (there, back)
  where
    there : is_question d minute ≡ true → IsQuestion d minute
    there is =
        let both = (and_is_true (in_century d) (leb d.day (month_length d.year d.month) && ltb minute Limits.day_minutes)).0 is in
        let others = (and_is_true (leb d.day (month_length d.year d.month)) (ltb minute Limits.day_minutes)).0 both.1 in
        record {
          dated = record { within_century = in_century_says d both.0; day_in_month = leb-true _ _ others.0 };
          minute_of_day = ltb-true _ _ others.1;
        }

    back : IsQuestion d minute → is_question d minute ≡ true
    back q =
        rw (says_in_century d q.dated.within_century, le-leb _ _ q.dated.day_in_month, lt-ltb _ _ q.minute_of_day)

pub asking_ends : (words : List ℕ) (d : Date) (minute : ℕ) → AskingEnds words d minute (plan_at_outcome words d minute)
unfolding plan_at_outcome calendar_of
asking_ends words d minute = go (reading_refuses_2_3_fault calendar words)
  where
    asked : (es : List Entry) (t : Bool) →
        Ends (cond t accepted (Err NoSuchQuestion)) (2 ∷ 3 ∷ 17 ∷ 18 ∷ []) []
        (verdict_of (cond t (Ok (ruled_at es (day_number d) minute)) (Err NoSuchQuestion)))
    asked es true = serves tt
    asked es false = turns_down (Memᴰ.append_right (2 ∷ 3 ∷ 17 ∷ []) (Memᴰ.head refl)) tt

    go : {reading : Reading (List Entry)} → UnreadOnly (2 ∷ 3 ∷ 17 ∷ []) reading →
        Ends (read_then reading (λ es. cond (is_question d minute) accepted (Err NoSuchQuestion))) (2 ∷ 3 ∷ 17 ∷ 18 ∷ []) []
        (verdict_of (plan_at_of reading d minute))
    go (read es) = asked es (is_question d minute)
    go (unread m) = turns_down (Memᴰ.append_left (18 ∷ []) m) tt

-- what the contract says of an answer
pub answer_is_promised : (words : List ℕ) (d : Date) (minute : ℕ) (answer : Result PlanDays Refusal) → answer ≡ plan_at_outcome words d minute →
    (answer ≡ plan_at_outcome words d minute) × AskingEnds words d minute answer
answer_is_promised words d minute answer e = (e, rw e (asking_ends words d minute))
