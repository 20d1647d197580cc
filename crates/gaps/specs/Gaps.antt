-- Document 02 (b): "A gap is a longest run of idle slots, joined across the end of the span, since the row repeats." A row is
-- a function from ticks, however late, to whether its slot is busy.
use Rattle.std.specs.Prelude.{ℕ, zero, suc, ◌+◌, ◌<◌, Bool, true, false, cond, ◌≡◌}
use Rattle.laws.specs.Sums.{sum}

-- a row of L slots, repeated
pub record Repeats (busy : ℕ → Bool) (L : ℕ) : Type 0 where
  pub again : (t : ℕ) → busy (L + t) ≡ busy t

-- a gap of a repeated row: so many idle slots, with one busy slot right before them and one right after
pub record Gap (busy : ℕ → Bool) (before size after : ℕ) : Type 0 where
  pub some : 0 < size
  pub sized : after ≡ before + suc size
  pub busy_before : busy before ≡ true
  pub busy_after : busy after ≡ true
  pub idle_between : (t : ℕ) → before < t → t < after → busy t ≡ false

-- one of the L slots is busy
pub record SomeBusy (busy : ℕ → Bool) (L : ℕ) : Type 0 where
  pub tick : ℕ
  pub within : tick < L
  pub is_busy : busy tick ≡ true

-- how many slots right before tick t are idle
unfoldable pub idle_before : (ℕ → Bool) → ℕ → ℕ
idle_before busy zero = 0
idle_before busy (suc t) = cond (busy t) 0 (suc (idle_before busy t))

-- the size of the gap that the slot at tick t of the span ends, or 0 where it ends none. One looks back from that slot's second
-- showing, so that a gap across the end of the span is whole; each gap is counted once, at the slot that ends it
unfoldable pub gap_ending_at : (ℕ → Bool) → ℕ → ℕ → ℕ
gap_ending_at busy L t = cond (busy t) (idle_before busy (L + t)) 0

-- what is reckoned of each gap, added up over all: F of no gap is to be 0
unfoldable pub over_gaps : (ℕ → ℕ) → (ℕ → Bool) → ℕ → ℕ
over_gaps F busy L = sum (λ t. F (gap_ending_at busy L t)) L
