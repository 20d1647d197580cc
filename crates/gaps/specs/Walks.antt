-- One pass along a row, and what it comes to once the last run of idle slots is joined with the first.
use Prim.Native.Nat.{ℕ, zero, suc, ◌+◌, ◌≤◌, ◌<◌}
use Rattle.std.specs.Prelude.{Bool, true, false, cond, ◌≡◌}
use Rattle.std.proofs.Math.Path.{refl, sym, ap, ap₂}
use Rattle.std.proofs.Common.{◌∙◌, add-suc, le_refl, arith}
use Rattle.std.proofs.Math.Nat.{add-zero}
use Rattle.laws.specs.Below.{below_suc}
use Rattle.laws.specs.Sums.{sum}
use Rattle.laws.specs.SumLaws.{sum_cong, sum_zero, sum_split}
use Rattle.laws.specs.SumOrderLaws.{sum_from_first}
use Rattle.gaps.specs.Gaps.{Repeats, idle_before, gap_ending_at, over_gaps}
use Rattle.gaps.specs.GapSumLaws.{idle_before_repeats, no_gaps_without_busy_slot}

-- the gap that a busy slot ends within the row
unfoldable pub gap_within : (ℕ → Bool) → ℕ → ℕ
gap_within busy t = cond (busy t) (idle_before busy t) 0

-- x slots were passed, none of them busy
pub record NoneBusy (busy : ℕ → Bool) (x leading run total : ℕ) : Type 0 where
  pub no_leading : leading ≡ 0
  pub all_run : run ≡ x
  pub no_total : total ≡ 0
  pub idle : (t : ℕ) → t < x → busy t ≡ false

-- x slots were passed, the first busy one after `leading` idle ones
pub record SinceFirst (F : ℕ → ℕ) (busy : ℕ → Bool) (x leading run total : ℕ) : Type 0 where
  pub slots : ℕ
  pub passed : x ≡ leading + suc slots
  pub first_busy : busy leading ≡ true
  pub idle_first : (t : ℕ) → t < leading → busy t ≡ false
  pub its_run : run ≡ idle_before busy x
  pub its_total : total ≡ sum (λ y. F (gap_within busy (leading + suc y))) slots

pub data Walked (F : ℕ → ℕ) (busy : ℕ → Bool) (x : ℕ) : Bool → ℕ → ℕ → ℕ → Type 0 where
  none_busy : {leading run total : ℕ} → NoneBusy busy x leading run total → Walked F busy x false leading run total
  since_first : {leading run total : ℕ} → SinceFirst F busy x leading run total → Walked F busy x true leading run total

module _ {F : ℕ → ℕ} {busy : ℕ → Bool} where
  pub walked_none : Walked F busy 0 false 0 0 0
  walked_none = none_busy (record { no_leading = refl; all_run = refl; no_total = refl; idle = λ t l. absurd (omega arith) })

  module _ {x leading run total : ℕ} where
    -- a slot more, with the gap that it ends within the row
    one_slot_more : (more total₂ : ℕ) → more ≡ idle_before busy (suc x) → total₂ ≡ total + F (gap_within busy x) →
        SinceFirst F busy x leading run total → SinceFirst F busy (suc x) leading more total₂
    unfolding sum
    one_slot_more more total₂ its_run its_total w =
        record {
          slots = suc w.slots;
          passed = omega (arith, w.passed);
          first_busy = w.first_busy;
          idle_first = w.idle_first;
          its_run = its_run;
          its_total = its_total ∙ ap₂ ◌+◌ w.its_total (ap (λ (t : ℕ). F (gap_within busy t)) w.passed);
        }

    pub walked_past_idle : {seen : Bool} → F 0 ≡ 0 → busy x ≡ false → Walked F busy x seen leading run total →
        Walked F busy (suc x) seen leading (suc run) total
    unfolding idle_before gap_within
    walked_past_idle none e (since_first w) =
        since_first (one_slot_more (suc run) total (rw e (ap suc w.its_run)) (rw e (rw none (sym (add-zero total)))) w)
    walked_past_idle none e (none_busy w) =
        none_busy (record {
          no_leading = w.no_leading;
          all_run = ap suc w.all_run;
          no_total = w.no_total;
          idle = below_suc (λ t. busy t ≡ false) x w.idle e;
        })

    pub walked_past_busy : busy x ≡ true → Walked F busy x true leading run total → Walked F busy (suc x) true leading 0 (total + F run)
    unfolding idle_before gap_within
    walked_past_busy e (since_first w) =
        since_first (one_slot_more 0 (total + F run) (rw e refl) (rw e (ap (λ (r : ℕ). total + F r) w.its_run)) w)

    first_busy_passed : busy x ≡ true → NoneBusy busy x leading run total → SinceFirst F busy (suc x) run 0 0
    unfolding idle_before sum
    first_busy_passed e w =
        record {
          slots = 0;
          passed = omega (arith, w.all_run);
          first_busy = rw w.all_run e;
          idle_first = λ t l. w.idle t (omega (arith, w.all_run));
          its_run = rw e refl;
          its_total = refl;
        }

    pub walked_past_first : busy x ≡ true → Walked F busy x false leading run total → Walked F busy (suc x) true run 0 0
    walked_past_first e (none_busy w) = since_first (first_busy_passed e w)

module _ (F : ℕ → ℕ) (busy : ℕ → Bool) (L : ℕ) (repeats : Repeats busy L) (none : F 0 ≡ 0) where
  pub walk_without_busy_slot : {leading run total : ℕ} → Walked F busy L false leading run total → over_gaps F busy L ≡ total
  walk_without_busy_slot (none_busy w) = no_gaps_without_busy_slot F none busy L w.idle ∙ sym w.no_total

  -- the first gap is the last run, joined with the leading one across the end of the span
  joined_gap : (d leading : ℕ) → d ≤ leading → ((t : ℕ) → t < leading → busy t ≡ false) → idle_before busy (L + d) ≡ d + idle_before busy L
  unfolding idle_before
  joined_gap zero leading l idle = rw add-zero (omega arith)
  joined_gap (suc d) leading l idle =
      let before = joined_gap d leading (omega arith) idle in
      rw (add-suc L d, repeats.again d, idle d l) (omega (arith, before))

  pub walk_comes_to : {leading run total : ℕ} → Walked F busy L true leading run total → over_gaps F busy L ≡ total + F (leading + run)
  unfolding over_gaps gap_ending_at gap_within
  walk_comes_to {leading} {run} {total} (since_first w) =
      let G : ℕ → ℕ = λ t. F (cond (busy t) (idle_before busy (L + t)) 0) in
      let parts : sum G L ≡ sum G leading + (G (leading + 0) + sum (λ i. G (leading + suc i)) w.slots) =
      ap (sum G) w.passed ∙ sum_split G leading (suc w.slots) ∙ ap (λ (n : ℕ). sum G leading + n) (sum_from_first (λ i. G (leading + i)) w.slots) in
      let none_first : sum G leading ≡ 0 = sum_zero G leading (λ t l. rw (w.idle_first t l) none) in
      let joined : G (leading + 0) ≡ F (leading + run) =
      rw (add-zero leading, w.first_busy, joined_gap leading leading (le_refl leading) w.idle_first, w.its_run) refl in
      let later : sum (λ i. G (leading + suc i)) w.slots ≡ total =
      sum_cong (λ i. G (leading + suc i)) (λ i. F (cond (busy (leading + suc i)) (idle_before busy (leading + suc i)) 0)) w.slots
      (λ i l. rw (idle_before_repeats busy L repeats leading i w.first_busy) refl)
      ∙ sym w.its_total in
      omega (arith, parts, none_first, joined, later)
