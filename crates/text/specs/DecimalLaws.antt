-- A number in base ten: its digits one by one, and that they are read back as the number.
use Rattle.std.specs.Prelude.{ℕ, zero, suc, ◌+◌, ◌*◌, ◌-◌, ◌/◌, ◌%◌, ◌≤◌, ◌<◌, Bool, true, false, cond, List, [], ◌∷◌, ◌++◌, ◌≡◌, refl, ltb, length}
use Rattle.std.proofs.Common.{◌∙◌, arith, ltb-true, ltb-false, lt-ltb, le-ltb, le-leb, length-append}
use Rattle.text.specs.Decimal.{digits_of, decimal}
use Rattle.text.specs.Text.{is_digit, value_after}

-- a bound above n is as good as any other
same_digits : (most more n : ℕ) → n < most → n < more → digits_of most n ≡ digits_of more n
unfolding digits_of
same_digits zero more n few few' = absurd (omega arith)
same_digits (suc most) zero n few few' = absurd (omega arith)
same_digits (suc most) (suc more) n few few' = go (ltb n 10) refl (same_digits most more (n / 10))
  where
    go :
        (small : Bool) → ltb n 10 ≡ small →
        (n / 10 < most → n / 10 < more → digits_of most (n / 10) ≡ digits_of more (n / 10)) →
        cond small ((48 + n) ∷ []) (digits_of most (n / 10) ++ ((48 + n % 10) ∷ [])) ≡
        cond small ((48 + n) ∷ []) (digits_of more (n / 10) ++ ((48 + n % 10) ∷ []))
    go true small front = refl
    go false large front =
        let ten = ltb-false n 10 large in rw (front (omega arith) (omega arith))

pub decimal_of_digit : (n : ℕ) → n < 10 → decimal n ≡ (48 + n) ∷ []
unfolding decimal digits_of
decimal_of_digit n small = rw (lt-ltb n 10 small)

pub decimal_by_tens : (n : ℕ) → 10 ≤ n → decimal n ≡ decimal (n / 10) ++ ((48 + n % 10) ∷ [])
unfolding decimal digits_of
decimal_by_tens n large =
    rw (le-ltb n 10 large, same_digits n (suc (n / 10)) (n / 10) (omega arith) (omega arith))

-- what holds of the digits, and of n where it holds of n / 10, holds of every number
pub by_digits : (P : ℕ → Type 0) → ((n : ℕ) → n < 10 → P n) → ((n : ℕ) → 10 ≤ n → P (n / 10) → P n) → (n : ℕ) → P n
by_digits P digit tens n = below (suc n) n (omega arith)
  where
    below : (most k : ℕ) → k < most → P k
    below zero k bound = absurd (omega arith)
    below (suc most) k bound = go (ltb k 10) refl (below most (k / 10))
      where
        go : (small : Bool) → ltb k 10 ≡ small → (k / 10 < most → P (k / 10)) → P k
        go true small front = digit k (ltb-true k 10 small)
        go false large front = let ten = ltb-false k 10 large in tens k ten (front (omega arith))

-- a run of digits
pub data Digits : List ℕ → Type 0 where
  none : Digits []
  one : {b : ℕ} {text : List ℕ} → is_digit b ≡ true → Digits text → Digits (b ∷ text)

digits_append : {xs ys : List ℕ} → Digits xs → Digits ys → Digits (xs ++ ys)
digits_append none more = more
digits_append (one digit rest) more = one digit (digits_append rest more)

digit_is : (d : ℕ) → d < 10 → is_digit (48 + d) ≡ true
unfolding is_digit
digit_is d small = rw (le-leb 48 (48 + d) (omega arith), le-leb (48 + d) 57 (omega arith))

pub decimal_is_digits : (n : ℕ) → Digits (decimal n)
decimal_is_digits =
    by_digits
    (λ n. Digits (decimal n))
    (λ n small. rw (decimal_of_digit n small) (one (digit_is n small) none))
    (λ n large front. rw (decimal_by_tens n large) (digits_append front (one (digit_is (n % 10) (omega arith)) none)))

pub decimal_is_some : (n : ℕ) → 0 < length (decimal n)
decimal_is_some =
    by_digits
    (λ n. 0 < length (decimal n))
    (λ n small. rw (decimal_of_digit n small) (omega arith))
    (λ n large front. rw (decimal_by_tens n large, length-append (decimal (n / 10)) _) (omega arith))

-- digits that follow a run of digits go on with its value
pub value_append :
    {run : List ℕ} (so_far : ℕ) (text : List ℕ) → Digits run →
    value_after so_far (run ++ text) ≡ value_after (value_after so_far run) text
unfolding value_after
value_append so_far text none = refl
value_append so_far text (one {b} digit rest) = rw digit (value_append (so_far * 10 + (b - 48)) text rest)

value_of_digit : (so_far d : ℕ) → d < 10 → value_after so_far ((48 + d) ∷ []) ≡ so_far * 10 + d
unfolding value_after
value_of_digit so_far d small = rw (digit_is d small) (omega arith)

pub value_of_decimal : (n : ℕ) → value_after 0 (decimal n) ≡ n
value_of_decimal =
    by_digits
    (λ n. value_after 0 (decimal n) ≡ n)
    (λ n small. rw (decimal_of_digit n small) (value_of_digit 0 n small ∙ omega arith))
    (λ n large front.
    rw (decimal_by_tens n large, value_append 0 _ (decimal_is_digits (n / 10)), front)
    (value_of_digit (n / 10) (n % 10) (omega arith) ∙ omega arith))
