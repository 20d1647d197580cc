-- Counting days from 1 January 2000 on comes to every date of the century.
use Rattle.std.specs.Prelude.{ℕ, zero, suc, ◌≤◌, ◌<◌, Bool, true, false, cond, ◌&&◌, List, [], ◌∷◌, ◌⊎◌, ◌≡◌, refl, leb, length, get_or}
use Rattle.std.proofs.Common.{inl, inr, ap, ◌∙◌, le_of_suc-le-suc, arith, leb-true}
use Rattle.laws.specs.Below.{lt_or_le}
use Rattle.laws.specs.Truth.{and_is_true}
use Rattle.ranges.specs.Limits
use Rattle.calendar.specs.DateLaws.{next_day_is_one_later, day_0_is_1_january_2000, day_36494_is_1_december_2099}
use Rattle.calendar.specs.Dates.{is_leap, date, month_length, InCentury, IsDate, month_index, day_number, NextDay, in_month, in_year, new_year}
use Rattle.calendar.specs.declared.Date.{Date}

-- each number of a list from the first on is at least `low` and at most `high`
all_within : ℕ → ℕ → List ℕ → Bool
all_within low high [] = true
all_within low high (x ∷ xs) = (leb low x && leb x high) && all_within low high xs

each_within : (low high : ℕ) (xs : List ℕ) → all_within low high xs ≡ true → (k : ℕ) → k < length xs → (low ≤ get_or xs k 0) × (get_or xs k 0 ≤ high)
unfolding all_within
each_within low high [] passes k below = absurd (omega arith)
each_within low high (x ∷ xs) passes zero below =
    let here = (and_is_true (leb low x) (leb x high)).0 ((and_is_true (leb low x && leb x high) (all_within low high xs)).0 passes).0 in
    (leb-true low x here.0, leb-true x high here.1)
each_within low high (x ∷ xs) passes (suc k) below =
    each_within low high xs ((and_is_true (leb low x && leb x high) (all_within low high xs)).0 passes).1 k (le_of_suc-le-suc below)

month_length_within : (year month : ℕ) → 1 ≤ month → month ≤ Limits.months → (28 ≤ month_length year month) × (month_length year month ≤ Limits.most_day)
unfolding month_length all_within
month_length_within year zero from to = absurd (omega arith)
month_length_within year (suc k) from to = go (is_leap year)
  where
    go : (leap : Bool) →
        let lengths : List ℕ = 31 ∷ cond leap 29 28 ∷ 31 ∷ 30 ∷ 31 ∷ 30 ∷ 31 ∷ 31 ∷ 30 ∷ 31 ∷ 30 ∷ 31 ∷ [] in
        (28 ≤ get_or lengths k 0) × (get_or lengths k 0 ≤ Limits.most_day)
    go true = each_within 28 31 (31 ∷ 29 ∷ 31 ∷ 30 ∷ 31 ∷ 30 ∷ 31 ∷ 31 ∷ 30 ∷ 31 ∷ 30 ∷ 31 ∷ []) refl k (omega arith)
    go false = each_within 28 31 (31 ∷ 28 ∷ 31 ∷ 30 ∷ 31 ∷ 30 ∷ 31 ∷ 31 ∷ 30 ∷ 31 ∷ 30 ∷ 31 ∷ []) refl k (omega arith)

december_has_31 : (year month : ℕ) → month ≡ Limits.months → month_length year month ≡ 31
unfolding month_length
december_has_31 year month is = rw is

record Next (a b : Date) : Type 0 where
  follows : NextDay a b
  is_date : IsDate b

-- the first of a month exists
first_is_date : (year month : ℕ) → Limits.first_year ≤ year → year ≤ Limits.last_year → 1 ≤ month → month ≤ Limits.months → IsDate (date year month 1)
first_is_date year month from_year to_year from_month to_month =
    let length = month_length_within year month from_month to_month in
    record {
      within_century =
          record {
            from_year = from_year;
            to_year = to_year;
            from_month = from_month;
            to_month = to_month;
            from_day = omega arith;
            to_day = omega arith;
          };
      day_in_month = omega (arith, length.0);
    }

last_december : (a : Date) → a.year ≡ Limits.last_year → a.month ≡ Limits.months → 1 ≤ a.day → a.day ≡ 31 → day_number a ≡ 36524
unfolding day_number month_index
last_december a year month from_day day =
    let of_first = day_36494_is_1_december_2099 in
    rw (year, month, day) (omega (arith, of_first))

next_exists : (a : Date) → IsDate a → day_number a < 36524 → (b : Date) × Next a b
next_exists a a_is more = days (lt_or_le a.day (month_length a.year a.month))
  where
    century : InCentury a
    century = a_is.within_century

    years : a.day ≡ month_length a.year a.month → a.month ≡ Limits.months → (a.year < Limits.last_year) ⊎ (Limits.last_year ≤ a.year) →
        (b : Date) × Next a b
    years last december (inl earlier) = (
      date (suc a.year) 1 1,
      record {
        follows = new_year last december;
        is_date = first_is_date (suc a.year) 1 (omega (arith, century.from_year)) earlier (omega arith) (omega arith);
      },
    )
    years last december (inr latest) =
        let year : a.year ≡ Limits.last_year = omega (arith, century.to_year) in
        let day : a.day ≡ 31 = last ∙ december_has_31 a.year a.month december in
        absurd (omega (arith, last_december a year december century.from_day day, more))

    months : a.day ≡ month_length a.year a.month → (a.month < Limits.months) ⊎ (Limits.months ≤ a.month) → (b : Date) × Next a b
    months last (inl earlier) = (
      date a.year (suc a.month) 1,
      record {
        follows = in_year last earlier;
        is_date = first_is_date a.year (suc a.month) century.from_year century.to_year (omega arith) earlier;
      },
    )
    months last (inr latest) = years last (omega (arith, century.to_month)) (lt_or_le a.year Limits.last_year)

    days : (a.day < month_length a.year a.month) ⊎ (month_length a.year a.month ≤ a.day) → (b : Date) × Next a b
    days (inl less) = (
      date a.year a.month (suc a.day),
      record {
        follows = in_month less;
        is_date =
            record {
              within_century =
                  record {
                    from_year = century.from_year;
                    to_year = century.to_year;
                    from_month = century.from_month;
                    to_month = century.to_month;
                    from_day = omega arith;
                    to_day = omega (arith, (month_length_within a.year a.month century.from_month century.to_month).1, less);
                  };
              day_in_month = less;
            };
      },
    )
    days (inr most) = months (omega (arith, a_is.day_in_month)) (lt_or_le a.month Limits.months)

pub every_day_has_a_date : (n : ℕ) → n < 36525 → (d : Date) × IsDate d × (day_number d ≡ n)
every_day_has_a_date zero below =
    (date 2000 1 1, first_is_date 2000 1 (omega arith) (omega arith) (omega arith) (omega arith), day_0_is_1_january_2000)
every_day_has_a_date (suc n) below =
    let before = every_day_has_a_date n (omega arith) in
    let next = next_exists before.0 before.1 (omega (arith, before.2)) in
    (next.0, next.1.is_date, next_day_is_one_later before.1 next.1.follows ∙ ap suc before.2)
