-- The examples of document 02 (m)'s request, computed.
use Rattle.refusals.specs.declared.Refusal.{Refusal}
use Rattle.std.specs.Prelude.{ℕ, List, [], ◌∷◌, ◌≡◌, refl, Result, Ok, Err}
use Rattle.refusals.specs.declared.Refusal.TheVariants.{WordCount, WordRange, CalendarDate, NoSuchQuestion}
use Rattle.formats.specs.Formats.{times}
use Rattle.formats.specs.Taking.{between, take_word, take_tested, take_end}
use Rattle.calendar.specs.Calendars.{date_words, hours_words, free_after, may_follow, entry, entries, calendar, calendar_of}
use Rattle.calendar.specs.Dates.{date, is_leap, month_length, month_index, length_of_month, first_day, day_number}
use Rattle.calendar.specs.Hours.{ruling, plan_of, days_to_later, in_century, is_question, plan_at_outcome}
use Rattle.calendar.specs.declared.PlanDays.{PlanDays}

-- from 28 February 2024 plan 7 from 8 to 18 o'clock, from 1 March plan 9 all day
abbrev leap_week : List ℕ
leap_week = 2 ∷ 2024 ∷ 2 ∷ 28 ∷ 480 ∷ 1080 ∷ 7 ∷ 2024 ∷ 3 ∷ 1 ∷ 0 ∷ 1440 ∷ 9 ∷ []

abbrev ruled : ℕ → ℕ → Result PlanDays Refusal
ruled plan days = Ok (record { plan = plan; days = days })

pub examples :
    plan_at_outcome leap_week (date 2024 2 28) 480 ∷ plan_at_outcome leap_week (date 2024 2 29) 1079 ∷ plan_at_outcome leap_week (date 2024 2 29) 1080
    ∷ plan_at_outcome leap_week (date 2024 2 27) 500 ∷ plan_at_outcome leap_week (date 2024 3 1) 0 ∷ plan_at_outcome (0 ∷ []) (date 2024 2 27) 500
    -- asked about no date
    ∷ plan_at_outcome leap_week (date 2023 2 29) 480
    -- a date that does not exist, and two entries of one date
    ∷ plan_at_outcome (1 ∷ 2023 ∷ 2 ∷ 29 ∷ 480 ∷ 1080 ∷ 7 ∷ []) (date 2024 2 28) 480
    ∷ plan_at_outcome (2 ∷ 2024 ∷ 2 ∷ 28 ∷ 480 ∷ 1080 ∷ 7 ∷ 2024 ∷ 2 ∷ 28 ∷ 0 ∷ 1440 ∷ 9 ∷ []) (date 2024 2 28) 480
    -- closing with the opening minute; opening when the day ends
    ∷ plan_at_outcome (1 ∷ 2024 ∷ 2 ∷ 28 ∷ 480 ∷ 480 ∷ 7 ∷ []) (date 2024 2 28) 480
    ∷ plan_at_outcome (1 ∷ 2024 ∷ 2 ∷ 28 ∷ 1440 ∷ 1440 ∷ 7 ∷ []) (date 2024 2 28) 480
    -- 201 entries; words left over; a bad word before the date is tested
    ∷ plan_at_outcome (201 ∷ []) (date 2024 2 28) 480 ∷ plan_at_outcome (0 ∷ 0 ∷ []) (date 2023 2 29) 480
    ∷ plan_at_outcome (1 ∷ 2023 ∷ 2 ∷ 29 ∷ 480 ∷ 1080 ∷ 256 ∷ []) (date 2024 2 28) 480 ∷ []
    ≡ ruled 7 2 ∷ ruled 7 1 ∷ ruled 0 1
    ∷ ruled 0 1 ∷ ruled 9 0 ∷ ruled 0 0
    ∷ Err NoSuchQuestion
    ∷ Err (CalendarDate 1)
    ∷ Err (CalendarDate 7)
    ∷ Err (WordRange 5)
    ∷ Err (WordRange 5)
    ∷ Err (WordRange 0) ∷ Err (WordCount 1)
    ∷ Err (WordRange 6) ∷ []
unfolding between take_word take_tested take_end times date_words hours_words free_after may_follow entry entries calendar calendar_of is_leap month_length month_index length_of_month first_day day_number ruling plan_of days_to_later in_century is_question plan_at_outcome
examples = refl
