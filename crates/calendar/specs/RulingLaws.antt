-- Of entries whose days rise: which one rules on a day, and how many days there are to the next.
use Rattle.std.specs.Prelude.{ℕ, zero, suc, ◌+◌, ◌≤◌, ◌<◌, cond, List, [], ◌∷◌, ◌⊎◌, ◌≡◌, refl, leb, length}
use Rattle.std.proofs.Common.{inl, inr, le_of_suc-le-suc, arith, le-leb, lt-ltb, le-ltb}
use Rattle.std.proofs.lemmas.Bool.{lt-leb}
use Rattle.laws.specs.Below.{lt_or_le}
use Rattle.calendar.specs.CalendarLaws.{Dated, none, one}
use Rattle.calendar.specs.Dates.{day_number}
use Rattle.calendar.specs.Hours.{ruling, days_to_later}
use Rattle.calendar.specs.ValidCalendars.{nth_entry}
use Rattle.calendar.specs.declared.Entry.{Entry}

abbrev pub day_at : List Entry → ℕ → ℕ
day_at es i = day_number (nth_entry es i).date

-- entry i has begun by the day, and the next has not
pub record RulesDay (es : List Entry) (day i : ℕ) : Type 0 where
  pub is_entry : i < length es
  pub begun : day_at es i ≤ day
  pub until_next : suc i < length es → day < day_at es (suc i)

not_before : {free : ℕ} {es : List Entry} → Dated free es → (i : ℕ) → i < length es → free ≤ day_at es i
not_before none i below = absurd (omega arith)
not_before (one e v free others) zero below = free
not_before (one e v free others) (suc i) below = omega (arith, not_before others i (le_of_suc-le-suc below))

days_rise : {free : ℕ} {es : List Entry} → Dated free es → (i j : ℕ) → i < j → j < length es → day_at es i < day_at es j
days_rise none i j less below = absurd (omega arith)
days_rise (one e v free others) i zero less below = absurd (omega arith)
days_rise (one e v free others) zero (suc j) less below = not_before others j (le_of_suc-le-suc below)
days_rise (one e v free others) (suc i) (suc j) less below = days_rise others i j (le_of_suc-le-suc less) (le_of_suc-le-suc below)

pub none_begun : {free : ℕ} {es : List Entry} (day : ℕ) (before : Entry) → Dated free es → (0 < length es → day < day_at es 0) →
    ruling day before es ≡ before
unfolding ruling
none_begun day before none later = refl
none_begun day before (one e {es} v free others) later =
    let first = later (omega arith) in
    rw (lt-leb (day_number e.date) day first)
    (none_begun day before others (λ some. omega (arith, not_before others 0 some)))

pub last_begun : {free : ℕ} {es : List Entry} (day : ℕ) (before : Entry) → Dated free es → (i : ℕ) → RulesDay es day i →
    ruling day before es ≡ nth_entry es i
unfolding ruling
last_begun day before none i rules = absurd (omega (arith, rules.is_entry))
last_begun day before (one e v free others) zero rules =
    rw (le-leb (day_number e.date) day rules.begun) (none_begun day e others (λ some. rules.until_next (omega arith)))
last_begun day before (one e v free others) (suc i) rules =
    last_begun day (cond (leb (day_number e.date) day) e before) others i
    (record {
      is_entry = le_of_suc-le-suc rules.is_entry;
      begun = rules.begun;
      until_next = λ more. rules.until_next (omega arith);
    })

pub one_rules : {free : ℕ} {es : List Entry} (day : ℕ) → Dated free es → (i j : ℕ) → RulesDay es day i → RulesDay es day j → j ≤ i
one_rules {es = es} day dated i j first second = go (lt_or_le i j)
  where
    go : (i < j) ⊎ (j ≤ i) → j ≤ i
    go (inr most) = most
    go (inl less) =
        let next = first.until_next (omega (arith, second.is_entry)) in
        go_on (lt_or_le (suc i) j) next
      where
        go_on : (suc i < j) ⊎ (j ≤ suc i) → day < day_at es (suc i) → j ≤ i
        go_on (inl further) next = absurd (omega (arith, days_rise dated (suc i) j further second.is_entry, second.begun))
        go_on (inr same) next = let e : suc i ≡ j = omega arith in absurd (omega (arith, rw e at next, second.begun))

pub some_rules : {free : ℕ} {es : List Entry} (day : ℕ) → Dated free es → (0 < length es → day < day_at es 0) ⊎ ((i : ℕ) × RulesDay es day i)
some_rules day none = inl (λ some. absurd (omega arith))
some_rules day (one e {es} v free others) = go (lt_or_le day (day_number e.date)) (some_rules day others)
  where
    go : (day < day_number e.date) ⊎ (day_number e.date ≤ day) → (0 < length es → day < day_at es 0) ⊎ ((i : ℕ) × RulesDay es day i) →
        (0 < length (e ∷ es) → day < day_at (e ∷ es) 0) ⊎ ((i : ℕ) × RulesDay (e ∷ es) day i)
    go (inl later) next = inl (λ some. later)
    go (inr begun) (inl later) =
        inr (0, record { is_entry = omega arith; begun = begun; until_next = λ more. later (le_of_suc-le-suc more) })
    go (inr begun) (inr (i, rules)) =
        inr (
          suc i,
          record {
            is_entry = omega (arith, rules.is_entry);
            begun = rules.begun;
            until_next = λ more. rules.until_next (le_of_suc-le-suc more);
          },
        )

pub days_to_first_later : (day : ℕ) (es : List Entry) (i : ℕ) → i < length es → day < day_at es i → ((j : ℕ) → j < i → day_at es j ≤ day) →
    day + days_to_later day es ≡ day_at es i
unfolding days_to_later
days_to_first_later day [] i below later begun = absurd (omega arith)
days_to_first_later day (e ∷ es) zero below later begun = rw (lt-ltb day (day_number e.date) later) (omega arith)
days_to_first_later day (e ∷ es) (suc i) below later begun =
    rw (le-ltb day (day_number e.date) (begun 0 (omega arith)))
    (days_to_first_later day es i (le_of_suc-le-suc below) later (λ j less. begun (suc j) (omega arith)))

pub no_days_where_none_later : (day : ℕ) (es : List Entry) → ((i : ℕ) → i < length es → day_at es i ≤ day) → days_to_later day es ≡ 0
unfolding days_to_later
no_days_where_none_later day [] begun = refl
no_days_where_none_later day (e ∷ es) begun =
    rw (le-ltb day (day_number e.date) (begun 0 (omega arith)))
    (no_days_where_none_later day es (λ i below. begun (suc i) (omega arith)))
