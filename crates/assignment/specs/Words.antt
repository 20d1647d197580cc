-- A value as the code holds it: two 64-bit numbers, a cost and a key. Every cost from `no_cost` on stands for none, so that
-- sums and comparisons of values are those of the numbers, with no test for none.
use Rattle.std.specs.Prelude.{ℕ, ◌+◌, ◌<◌, ◌≤◌, ◌≡◌, ◌⊎◌, cond, ltb}
use Rattle.std.proofs.Common.{inl, inr, arith, lt-ltb, le-ltb}
use Rattle.laws.specs.Below.{lt_or_le}
use Rattle.assignment.specs.Values.{Value, none, pair, add, lesser, AtMost, to_none, cheaper, tied, Within, present}
use Rattle.assignment.specs.ValueLaws.{lesser_is_first, lesser_is_second}

-- 2^62: four of them fit 64 bits, and no sum of real costs comes near
abbrev pub no_cost : ℕ
no_cost = 4611686018427387904

unfoldable pub value_of : ℕ → ℕ → Value
value_of cost key = cond (ltb cost no_cost) (pair cost key) none

pub words_none : (cost key : ℕ) → no_cost ≤ cost → value_of cost key ≡ none
unfolding value_of
words_none cost key h = rw (le-ltb cost no_cost h)

pub words_pair : (cost key : ℕ) → cost < no_cost → value_of cost key ≡ pair cost key
unfolding value_of
words_pair cost key h = rw (lt-ltb cost no_cost h)

-- sums and leasts of values are those of the numbers

pub words_add : (a x b y : ℕ) → (a < no_cost → b < no_cost → a + b < no_cost) →
    add (value_of a x) (value_of b y) ≡ value_of (a + b) (x + y)
unfolding add
words_add a x b y h = go (lt_or_le a no_cost) (lt_or_le b no_cost)
  where
    go : (a < no_cost) ⊎ (no_cost ≤ a) → (b < no_cost) ⊎ (no_cost ≤ b) → add (value_of a x) (value_of b y) ≡ value_of (a + b) (x + y)
    go (inl p) (inl q) = rw (words_pair a x p, words_pair b y q, words_pair (a + b) (x + y) (h p q))
    go (inl p) (inr q) = rw (words_pair a x p, words_none b y q, words_none (a + b) (x + y) (omega arith))
    go (inr p) either = rw (words_none a x p, words_none (a + b) (x + y) (omega arith))

pub words-at_most : (a x b y : ℕ) → (a < b) ⊎ ((a ≡ b) × (x ≤ y)) → AtMost (value_of a x) (value_of b y)
words-at_most a x b y order = go (lt_or_le b no_cost) order
  where
    go : (b < no_cost) ⊎ (no_cost ≤ b) → (a < b) ⊎ ((a ≡ b) × (x ≤ y)) → AtMost (value_of a x) (value_of b y)
    go (inr h) either = rw (words_none b y h) to_none
    go (inl h) (inl less) = rw (words_pair a x (omega arith), words_pair b y h) (cheaper less)
    go (inl h) (inr (same, le)) = rw (words_pair a x (omega arith), words_pair b y h) (tied same le)

pub words_lesser_first : (a x b y : ℕ) → (a < b) ⊎ ((a ≡ b) × (x ≤ y)) → lesser (value_of a x) (value_of b y) ≡ value_of a x
words_lesser_first a x b y order = lesser_is_first (words-at_most a x b y order)

pub words_lesser_second : (a x b y : ℕ) → (b < a) ⊎ ((b ≡ a) × (y ≤ x)) → lesser (value_of a x) (value_of b y) ≡ value_of b y
words_lesser_second a x b y order = lesser_is_second (words-at_most b y a x order)

-- numbers that do not stand for none have the value's bounds
pub words_within : {most keys : ℕ} (cost key : ℕ) → cost < no_cost → Within most keys (value_of cost key) →
    (cost ≤ most) × (key < keys)
words_within {most} {keys} cost key h within = go (rw (words_pair cost key h) at within)
  where
    go : Within most keys (pair cost key) → (cost ≤ most) × (key < keys)
    go (present le lt) = (le, lt)
