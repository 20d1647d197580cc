-- How long the lines of a listing can be.
use Rattle.std.specs.Prelude.{ℕ, zero, suc, ◌+◌, ◌*◌, ◌/◌, ◌^◌, ◌≤◌, ◌<◌, List, [], ◌∷◌, ◌⊎◌, length, get_or}
use Rattle.std.proofs.Common.{inl, inr, pow-suc, suc-mul, arith, length-append}
use Rattle.laws.specs.Below.{lt_or_le}
use Rattle.laws.specs.Lists.{joined}
use Rattle.text.specs.Decimal.{decimal}
use Rattle.text.specs.DecimalLaws.{decimal_of_digit, decimal_by_tens}
use Rattle.prices.specs.declared.amounts.Price.{Price}
use Rattle.listing_lines.specs.Lines.{bytes, ended, line}
use Rattle.listing_lines.specs.ListingLines.{numbers_line, span_line, cost_line, kept_line, refused_line}
use Rattle.listing_lines.specs.LineLaws.{numbers_line_parts, spaced_one_by_one}

-- a number below 10 ^ suc most has at most suc most digits
pub digits_at_most : (most n : ℕ) → n < 10 ^ suc most → length (decimal n) ≤ suc most
digits_at_most zero n h = rw (decimal_of_digit n h) (omega arith)
digits_at_most (suc most) n h = go (lt_or_le n 10) (digits_at_most most (n / 10))
  where
    go : (n < 10) ⊎ (10 ≤ n) → (n / 10 < 10 ^ suc most → length (decimal (n / 10)) ≤ suc most) → length (decimal n) ≤ suc (suc most)
    go (inl small) front = rw (decimal_of_digit n small) (omega arith)
    go (inr large) front =
        rw (decimal_by_tens n large, length-append (decimal (n / 10)))
        (omega (arith, front (omega (arith, pow-suc 10 (suc most)))))

-- every number of a listing is far below 10 ^ 20
abbrev pub Printable : ℕ → Type 0
Printable n = n < 10 ^ 20

digits : (n : ℕ) → Printable n → length (decimal n) ≤ 20
digits n h = digits_at_most 19 n h

pub refusal_line_at_most : (number place : ℕ) → Printable number → Printable place →
    length (numbers_line "refused" (number ∷ place ∷ [])) ≤ 60
unfolding numbers_line line ended bytes
refusal_line_at_most number place hn hp = simp length-append (omega (arith, digits number hn, digits place hp))

pub span_line_at_most : (ticks : ℕ) → Printable ticks → length (span_line ticks) ≤ 30
unfolding span_line numbers_line line ended bytes
span_line_at_most ticks h = simp length-append (omega (arith, digits ticks h))

pub cost_line_at_most : (price : Price) → Printable price.energy → Printable price.penalty → Printable price.cost →
    length (cost_line price) ≤ 70
unfolding cost_line numbers_line line ended bytes
cost_line_at_most price he hp hc = simp length-append (omega (arith, digits _ he, digits _ hp, digits _ hc))

pub kept_line_at_most : (number core level ticks : ℕ) → Printable number → Printable core → Printable level → Printable ticks →
    length (kept_line number core level ticks) ≤ 110
unfolding kept_line line ended bytes
kept_line_at_most number core level ticks hn hc hl ht =
    simp length-append (omega (arith, digits number hn, digits core hc, digits level hl, digits ticks ht))

pub refused_line_at_most : (number : ℕ) → Printable number → length (refused_line number) ≤ 110
unfolding refused_line line ended bytes
refused_line_at_most number hn = simp length-append (omega (arith, digits number hn))

-- parts, each of at most `most` bytes
pub parts_at_most : (part : ℕ → List ℕ) (most n : ℕ) → ((k : ℕ) → k < n → length (part k) ≤ most) → length (joined part n) ≤ n * most
unfolding joined
parts_at_most part most zero each = omega arith
parts_at_most part most (suc n) each =
    rw (suc-mul, length-append (joined part n))
    (omega (arith, parts_at_most part most n (λ k h. each k (omega arith)), each n (omega arith)))

pub core_line_at_most : (number : ℕ) (slots : List ℕ) → Printable number → ((t : ℕ) → t < length slots → get_or slots t 0 < 100) →
    length (numbers_line "core" (number ∷ slots)) ≤ 30 + length slots * 3
unfolding bytes
core_line_at_most number slots h small =
    let each : (t : ℕ) → t < length slots → length (32 ∷ decimal (get_or slots t 0)) ≤ 3 =
    λ t l. omega (arith, digits_at_most 1 (get_or slots t 0) (small t l)) in
    let all = parts_at_most (λ t. 32 ∷ decimal (get_or slots t 0)) 3 (length slots) each in
    rw (numbers_line_parts "core" number slots)
    (simp length-append (omega (arith, digits number h, rw spaced_one_by_one at all)))
