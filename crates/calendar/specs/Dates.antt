-- Dates of the Gregorian calendar, 2000 to 2099, and their day numbers: "1 January 2000 being day 0".
use Rattle.std.specs.Prelude.{ℕ, zero, suc, ◌+◌, ◌-◌, ◌*◌, ◌/◌, ◌%◌, ◌≤◌, ◌<◌, Bool, true, cond, not, ◌&&◌, ◌||◌, List, [], ◌∷◌, ◌≡◌, eqb, get_or}
use Rattle.ranges.specs.Limits
use Rattle.calendar.specs.declared.Date.{Date}

-- every fourth year, but of the hundredth years only every fourth
unfoldable pub is_leap : ℕ → Bool
is_leap year = eqb (year % 400) 0 || (eqb (year % 4) 0 && not (eqb (year % 100) 0))

abbrev pub february_length : ℕ → ℕ
february_length year = cond (is_leap year) 29 28

-- the days of each month, 1 for January to 12 for December
unfoldable pub month_length : ℕ → ℕ → ℕ
month_length year month = get_or (0 ∷ 31 ∷ february_length year ∷ 31 ∷ 30 ∷ 31 ∷ 30 ∷ 31 ∷ 31 ∷ 30 ∷ 31 ∷ 30 ∷ 31 ∷ []) month 0

abbrev pub date : ℕ → ℕ → ℕ → Date
date year month day = record { year = year; month = month; day = day }

-- the numbers that a date's words may be, whether there is such a date or not
pub record InCentury (d : Date) : Type 0 where
  pub from_year : Limits.first_year ≤ d.year
  pub to_year : d.year ≤ Limits.last_year
  pub from_month : 1 ≤ d.month
  pub to_month : d.month ≤ Limits.months
  pub from_day : 1 ≤ d.day
  pub to_day : d.day ≤ Limits.most_day

-- the dates that exist
pub record IsDate (d : Date) : Type 0 where
  pub within_century : InCentury d
  pub day_in_month : d.day ≤ month_length d.year d.month

-- months counted from January 2000
unfoldable pub month_index : Date → ℕ
month_index d = (d.year - Limits.first_year) * Limits.months + (d.month - 1)

unfoldable pub length_of_month : ℕ → ℕ
length_of_month k = month_length (Limits.first_year + k / Limits.months) (suc (k % Limits.months))

-- the day on which a month begins
unfoldable pub first_day : ℕ → ℕ
first_day zero = 0
first_day (suc k) = first_day k + length_of_month k

unfoldable pub day_number : Date → ℕ
day_number d = first_day (month_index d) + (d.day - 1)

pub data DateBefore (a b : Date) : Type 0 where
  by_year : a.year < b.year → DateBefore a b
  by_month : a.year ≡ b.year → a.month < b.month → DateBefore a b
  by_day : a.year ≡ b.year → a.month ≡ b.month → a.day < b.day → DateBefore a b

-- the date after an existing one: the next day of the month, or the first of the next month, or of the next year
pub data NextDay (a : Date) : Date → Type 0 where
  in_month : a.day < month_length a.year a.month → NextDay a (date a.year a.month (suc a.day))
  in_year : a.day ≡ month_length a.year a.month → a.month < Limits.months → NextDay a (date a.year (suc a.month) 1)
  new_year : a.day ≡ month_length a.year a.month → a.month ≡ Limits.months → NextDay a (date (suc a.year) 1 1)

-- the test of a list of first days: the first is 0, and each other is the one before plus the length of the month between
unfoldable pub follows : ℕ → ℕ → List ℕ → Bool
follows k x [] = true
follows k x (y ∷ ys) = eqb y (x + length_of_month k) && follows (suc k) y ys

unfoldable pub from_the_first : List ℕ → Bool
from_the_first [] = true
from_the_first (x ∷ xs) = eqb x 0 && follows 0 x xs
