-- Day numbers rise with dates, day by day; and a list of first days that passes the test holds them.
use Rattle.std.specs.Prelude.{ℕ, zero, suc, ◌+◌, ◌-◌, ◌*◌, ◌/◌, ◌%◌, ◌≤◌, ◌<◌, true, List, [], ◌∷◌, ◌⊎◌, ◌≡◌, refl, eqb, get_or}
use Rattle.std.proofs.Common.{inl, inr, sym, ◌∙◌, le_of_suc-le-suc, arith, eqb-true}
use Rattle.std.proofs.Math.Path.{ap}
use Rattle.std.proofs.Math.ListN.{length}
use Rattle.laws.specs.Below.{lt_or_le}
use Rattle.laws.specs.Truth.{and_is_true}
use Rattle.ranges.specs.Limits
use Rattle.calendar.specs.Dates.{is_leap, date, month_length, InCentury, IsDate, month_index, length_of_month, first_day, day_number, DateBefore, by_year, by_month, by_day, NextDay, in_month, in_year, new_year, follows, from_the_first}
use Rattle.calendar.specs.declared.Date.{Date}

month_length_at : (d : Date) → InCentury d → length_of_month (month_index d) ≡ month_length d.year d.month
unfolding length_of_month month_index
month_length_at d within =
    let year : Limits.first_year + ((d.year - Limits.first_year) * Limits.months + (d.month - 1)) / Limits.months ≡ d.year = omega (arith, within.from_year) in
    let month : suc (((d.year - Limits.first_year) * Limits.months + (d.month - 1)) % Limits.months) ≡ d.month = omega (arith, within.from_month) in
    rw (year, month)

-- a month ends before any later one begins
first_day_rises : (j k : ℕ) → j < k → first_day (suc j) ≤ first_day k
unfolding first_day
first_day_rises j zero below = absurd (omega arith)
first_day_rises j (suc k) below = go (lt_or_le j k) (first_day_rises j k)
  where
    go : (j < k) ⊎ (k ≤ j) → (j < k → first_day (suc j) ≤ first_day k) → first_day (suc j) ≤ first_day (suc k)
    go (inl less) rises = omega (arith, rises less)
    go (inr same) rises = let e : j ≡ k = omega arith in rw e (omega arith)

module _ (a b : Date) (a_is : IsDate a) (b_is : IsDate b) where
  in_later_month : month_index a < month_index b → day_number a < day_number b
  unfolding day_number first_day
  in_later_month later =
      let length = month_length_at a a_is.within_century in
      omega (arith, first_day_rises (month_index a) (month_index b) later, a_is.within_century.from_day, a_is.day_in_month)

  in_same_month : month_index a ≡ month_index b → a.day < b.day → day_number a < day_number b
  unfolding day_number
  in_same_month same less = rw same (omega (arith, less, a_is.within_century.from_day))

  pub day_numbers_rise : DateBefore a b → day_number a < day_number b
  unfolding month_index
  day_numbers_rise (by_year less) =
      in_later_month (omega (arith, less, a_is.within_century.to_month, a_is.within_century.from_year, b_is.within_century.from_month))
  day_numbers_rise (by_month same less) = in_later_month (omega (arith, same, less, a_is.within_century.from_month))
  day_numbers_rise (by_day same month less) =
      let years = ap (λ (y : ℕ). (y - Limits.first_year) * Limits.months) same in
      in_same_month (omega (arith, years, month)) less

data Ordered (a b : Date) : Type 0 where
  before : DateBefore a b → Ordered a b
  same : a ≡ b → Ordered a b
  after : DateBefore b a → Ordered a b

one_is_before : (a b : Date) → Ordered a b
one_is_before a b = years (lt_or_le a.year b.year) (lt_or_le b.year a.year)
  where
    days : a.year ≡ b.year → a.month ≡ b.month → (a.day < b.day) ⊎ (b.day ≤ a.day) → (b.day < a.day) ⊎ (a.day ≤ b.day) → Ordered a b
    days year month (inl less) other = before (by_day year month less)
    days year month (inr most) (inl less) = after (by_day (sym year) (sym month) less)
    days year month (inr most) (inr least) =
        let day : a.day ≡ b.day = omega arith in
        same (λ i. record { year = year i; month = month i; day = day i })

    months : a.year ≡ b.year → (a.month < b.month) ⊎ (b.month ≤ a.month) → (b.month < a.month) ⊎ (a.month ≤ b.month) → Ordered a b
    months year (inl less) other = before (by_month year less)
    months year (inr most) (inl less) = after (by_month (sym year) less)
    months year (inr most) (inr least) = days year (omega arith) (lt_or_le a.day b.day) (lt_or_le b.day a.day)

    years : (a.year < b.year) ⊎ (b.year ≤ a.year) → (b.year < a.year) ⊎ (a.year ≤ b.year) → Ordered a b
    years (inl less) other = before (by_year less)
    years (inr most) (inl less) = after (by_year less)
    years (inr most) (inr least) = months (omega arith) (lt_or_le a.month b.month) (lt_or_le b.month a.month)

pub one_date_a_day : (a b : Date) → IsDate a → IsDate b → day_number a ≡ day_number b → a ≡ b
one_date_a_day a b a_is b_is e = go (one_is_before a b)
  where
    go : Ordered a b → a ≡ b
    go (before earlier) = absurd (omega (arith, day_numbers_rise a b a_is b_is earlier))
    go (same is) = is
    go (after later) = absurd (omega (arith, day_numbers_rise b a b_is a_is later))

pub later_day_is_after : (a b : Date) → IsDate a → IsDate b → day_number a < day_number b → DateBefore a b
later_day_is_after a b a_is b_is less = go (one_is_before a b)
  where
    go : Ordered a b → DateBefore a b
    go (before earlier) = earlier
    go (same is) = absurd (omega (arith, ap day_number is))
    go (after later) = absurd (omega (arith, day_numbers_rise b a b_is a_is later))

pub next_day_is_one_later : {a b : Date} → IsDate a → NextDay a b → day_number b ≡ suc (day_number a)
unfolding day_number month_index first_day
next_day_is_one_later a_is (in_month less) = omega (arith, a_is.within_century.from_day)
next_day_is_one_later {a} a_is (in_year last below) =
    let next : (a.year - Limits.first_year) * Limits.months + (suc a.month - 1) ≡ suc (month_index a) = omega (arith, a_is.within_century.from_month) in
    rw next (omega (arith, month_length_at a a_is.within_century, a_is.within_century.from_day))
next_day_is_one_later {a} a_is (new_year last december) =
    let next : (suc a.year - Limits.first_year) * Limits.months + 0 ≡ suc (month_index a) = omega (arith, a_is.within_century.from_year) in
    rw next (omega (arith, month_length_at a a_is.within_century, a_is.within_century.from_day))

-- k first days stand before those of the list, and x is the last of them: then each is as defined
follows_on : (xs : List ℕ) (k x : ℕ) → x ≡ first_day k → follows k x xs ≡ true → (i : ℕ) → i < length xs → get_or xs i 0 ≡ first_day (suc k + i)
unfolding follows first_day
follows_on [] k x is passes i below = absurd (omega arith)
follows_on (y ∷ ys) k x is passes zero below =
    let here = ((and_is_true (eqb y (x + length_of_month k)) (follows (suc k) y ys)).0 passes).0 in
    let e : suc k + 0 ≡ suc k = omega arith in
    rw e (eqb-true _ _ here ∙ ap (λ (f : ℕ). f + length_of_month k) is)
follows_on (y ∷ ys) k x is passes (suc i) below =
    let both = (and_is_true (eqb y (x + length_of_month k)) (follows (suc k) y ys)).0 passes in
    let e : suc k + suc i ≡ suc (suc k) + i = omega arith in
    rw e (follows_on ys (suc k) y (eqb-true _ _ both.0 ∙ ap (λ (f : ℕ). f + length_of_month k) is) both.1 i (le_of_suc-le-suc below))

pub first_days_are : (xs : List ℕ) → from_the_first xs ≡ true → (k : ℕ) → k < length xs → get_or xs k 0 ≡ first_day k
unfolding from_the_first first_day
first_days_are [] passes k below = absurd (omega arith)
first_days_are (x ∷ xs) passes zero below = eqb-true x 0 ((and_is_true (eqb x 0) (follows 0 x xs)).0 passes).0
first_days_are (x ∷ xs) passes (suc k) below =
    let both = (and_is_true (eqb x 0) (follows 0 x xs)).0 passes in
    let e : suc 0 + k ≡ suc k = omega arith in
    rw e at (follows_on xs 0 x (eqb-true x 0 both.0) both.1 k (le_of_suc-le-suc below))

first_day_at_most : (k : ℕ) → k < 1200 → first_day k ≤ 36494
unfolding first_day length_of_month month_length is_leap
first_day_at_most k below = go (lt_or_le k 1199) refl
  where
    grows : first_day k ≤ first_day (suc k)
    grows = omega arith

    go : (k < 1199) ⊎ (1199 ≤ k) → first_day 1199 ≡ 36494 → first_day k ≤ 36494
    go (inl less) last = omega (arith, first_day_rises k 1199 less, grows, last)
    go (inr most) last = let e : k ≡ 1199 = omega arith in rw e (omega (arith, last))

pub day_number_at_most : (d : Date) → InCentury d → day_number d ≤ 36524
unfolding day_number month_index
day_number_at_most d within = omega (arith, first_day_at_most (month_index d) (omega (arith, within.to_year, within.to_month)), within.to_day)

pub day_0_is_1_january_2000 : day_number (date 2000 1 1) ≡ 0
unfolding day_number month_index first_day
day_0_is_1_january_2000 = refl

pub day_36494_is_1_december_2099 : day_number (date 2099 12 1) ≡ 36494
unfolding day_number month_index first_day length_of_month month_length is_leap
day_36494_is_1_december_2099 = refl
