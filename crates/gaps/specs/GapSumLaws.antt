-- Sums over the gaps of a repeated row: their sizes add up to the idle slots of the row; a row without a busy slot has none.
use Prim.Native.Nat.{ℕ, zero, suc, ◌+◌, ◌-◌, ◌<◌}
use Rattle.std.specs.Prelude.{Bool, not, ◌≡◌}
use Rattle.std.proofs.Math.Bool.{true, false, cond}
use Rattle.std.proofs.Math.Path.{refl}
use Rattle.std.proofs.Common.{subst}
use Rattle.std.proofs.Math.Nat.{add-suc, add-zero}
use native.Mathlib.Omega.{arith}
use Rattle.laws.specs.Search.{count}
use Rattle.laws.specs.Sums.{sum}
use Rattle.laws.specs.SumLaws.{sum_zero}
use Rattle.gaps.specs.Gaps.{Repeats, SomeBusy, idle_before, gap_ending_at, over_gaps}

-- the idle slots of a row
abbrev pub idle_slots : (ℕ → Bool) → ℕ → ℕ
idle_slots busy L = count (λ t. not (busy t)) L

module _ (busy : ℕ → Bool) (L : ℕ) (repeats : Repeats busy L) where
  -- a slot ends the run of idle slots before it, or makes it longer
  ended_or_longer : (t : ℕ) → gap_ending_at busy L t + idle_before busy (suc (L + t)) ≡ idle_before busy (L + t) + cond (not (busy t)) 1 0
  unfolding gap_ending_at idle_before
  ended_or_longer t = rw (repeats.again t) (go (busy t))
    where
      go : (b : Bool) → cond b (idle_before busy (L + t)) 0 + cond b 0 (suc (idle_before busy (L + t))) ≡ idle_before busy (L + t) + cond (not b) 1 0
      go true = omega arith
      go false = omega arith

  ended_so_far : (x : ℕ) → sum (gap_ending_at busy L) x + idle_before busy (L + x) ≡ idle_before busy L + idle_slots busy x
  unfolding sum count
  ended_so_far zero = rw add-zero (omega arith)
  ended_so_far (suc x) = rw (add-suc L x) (omega (arith, ended_so_far x, ended_or_longer x))

  -- past a busy slot, one sees the same in the second span as in the first
  pub idle_before_repeats : (b d : ℕ) → busy b ≡ true → idle_before busy (L + (b + suc d)) ≡ idle_before busy (b + suc d)
  unfolding idle_before
  idle_before_repeats b zero e = rw (add-suc, add-zero, add-suc, repeats.again, e) refl
  idle_before_repeats b (suc d) e =
      rw (add-suc b (suc d), add-suc L (b + suc d), repeats.again (b + suc d), idle_before_repeats b d e) refl

  pub gap_sizes_add_up : SomeBusy busy L → sum (gap_ending_at busy L) L ≡ idle_slots busy L
  gap_sizes_add_up some =
      let d = L - suc some.tick in
      let here : some.tick + suc d ≡ L = omega (arith, some.within) in
      let same : idle_before busy (L + L) ≡ idle_before busy L =
      subst (λ x. idle_before busy (L + x) ≡ idle_before busy x) here (idle_before_repeats some.tick d some.is_busy) in
      omega (arith, ended_so_far L, same)

pub no_gaps_without_busy_slot : (F : ℕ → ℕ) → F 0 ≡ 0 → (busy : ℕ → Bool) (L : ℕ) → ((t : ℕ) → t < L → busy t ≡ false) → over_gaps F busy L ≡ 0
unfolding over_gaps gap_ending_at
no_gaps_without_busy_slot F none busy L idle =
    sum_zero (λ t. F (cond (busy t) (idle_before busy (L + t)) 0)) L (λ t l. rw (idle t l) none)
