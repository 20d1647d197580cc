-- The gaps of a repeated row with a busy slot: they do not overlap, hold every idle slot and are shorter than the row, and each is
-- counted at the slot that ends it.
use Rattle.std.specs.Prelude.{ℕ, zero, suc, ◌+◌, ◌-◌, ◌≤◌, ◌<◌, Bool, ◌≡◌}
use Rattle.std.proofs.Math.Bool.{true, false, cond}
use Rattle.std.proofs.Math.Logic.{⊎_elim}
use Rattle.std.proofs.Math.Path.{refl, sym}
use Rattle.std.proofs.Common.{subst, ◌∙◌, add-suc, add-zero, suc-add}
use native.Mathlib.Omega.{arith}
use Rattle.laws.specs.Below.{lt_or_le}
use Rattle.laws.specs.Truth.{false_not_true}
use Rattle.gaps.specs.Gaps.{Repeats, Gap, SomeBusy, idle_before, gap_ending_at}

-- what one sees, looking back from tick t: idle slots, and a busy one before them
pub record LookedBack (busy : ℕ → Bool) (t : ℕ) : Type 0 where
  pub before : ℕ
  pub so_many : t ≡ before + suc (idle_before busy t)
  pub busy_there : busy before ≡ true
  pub idle_since : (x : ℕ) → before < x → x < t → busy x ≡ false

-- the next busy slot from tick t on
record NextBusy (busy : ℕ → Bool) (t : ℕ) : Type 0 where
  after : ℕ
  not_before : t ≤ after
  busy_there : busy after ≡ true
  idle_until : (x : ℕ) → t ≤ x → x < after → busy x ≡ false

-- a gap that a slot lies in
pub record InGap (busy : ℕ → Bool) (t : ℕ) : Type 0 where
  pub before : ℕ
  pub size : ℕ
  pub after : ℕ
  pub is_gap : Gap busy before size after
  pub past_before : before < t
  pub before_after : t < after

module _ {busy : ℕ → Bool} where
  not_past_end : {b s a b₂ s₂ a₂ t : ℕ} → Gap busy b s a → Gap busy b₂ s₂ a₂ → b₂ < t → t < a → a < a₂ → ⊥
  not_past_end {a = a} g h after before past = false_not_true (h.idle_between a (omega arith) past) g.busy_after

  not_before_start : {b s a b₂ s₂ a₂ t : ℕ} → Gap busy b s a → Gap busy b₂ s₂ a₂ → b < t → t < a₂ → b₂ < b → ⊥
  not_before_start {b = b} g h after before past = false_not_true (h.idle_between b past (omega arith)) g.busy_before

  -- two gaps that share a slot are one
  pub gaps_are_disjoint : {b s a b₂ s₂ a₂ t : ℕ} → Gap busy b s a → Gap busy b₂ s₂ a₂ → b < t → t < a → b₂ < t → t < a₂ →
      (b ≡ b₂) × (s ≡ s₂) × (a ≡ a₂)
  gaps_are_disjoint {b} {s} {a} {b₂} {s₂} {a₂} {t} g h l r l₂ r₂ =
      let ends : a ≡ a₂ = omega (arith, not_past_end g h l₂ r, not_past_end h g l r₂) in
      let begins : b ≡ b₂ = omega (arith, not_before_start g h l r₂, not_before_start h g l₂ r) in
      (begins, omega (arith, g.sized, h.sized), ends)

  pub gap_is_shorter_than_row : {L b s a : ℕ} → 0 < L → Repeats busy L → Gap busy b s a → s < L
  gap_is_shorter_than_row {L} {b} {s} {a} above repeats g =
      ⊎_elim
      (λ short. short)
      (λ long.
      let idle : busy (L + b) ≡ false = g.idle_between (L + b) (omega arith) (omega (arith, g.sized)) in
      absurd (false_not_true idle (repeats.again b ∙ g.busy_before)))
      (lt_or_le s L)

  look_back_one_more : (t : ℕ) → (busy t ≡ false → LookedBack busy t) → LookedBack busy (suc t)
  unfolding idle_before
  look_back_one_more t earlier = go (busy t) refl
    where
      go : (b : Bool) → busy t ≡ b → LookedBack busy (suc t)
      go true e =
          record {
            before = t;
            so_many = rw e (omega arith);
            busy_there = e;
            idle_since = λ x l r. absurd (omega arith);
          }
      go false e =
          let back = earlier e in
          record {
            before = back.before;
            so_many = rw e (omega (arith, back.so_many));
            busy_there = back.busy_there;
            idle_since = λ x l r.
                ⊎_elim (λ below. back.idle_since x l below) (λ past. let last : x ≡ t = omega arith in rw last e) (lt_or_le x t);
          }

  look_back : (b d : ℕ) → busy b ≡ true → LookedBack busy (b + suc d)
  look_back b zero e = rw (add-suc, add-zero) (look_back_one_more b (λ idle. absurd (false_not_true idle e)))
  look_back b (suc d) e = let one_less = look_back b d e in rw (add-suc b (suc d)) (look_back_one_more (b + suc d) (λ idle. one_less))

  pub idle_before_of_run : (b d : ℕ) → busy b ≡ true → ((x : ℕ) → b < x → x < b + suc d → busy x ≡ false) → idle_before busy (b + suc d) ≡ d
  idle_before_of_run b d e idle =
      let back = look_back b d e in
      let not_earlier : back.before < b → ⊥ = λ l. false_not_true (back.idle_since b l (omega arith)) e in
      let not_later : b < back.before → ⊥ = λ l. false_not_true (idle back.before l (omega (arith, back.so_many))) back.busy_there in
      omega (arith, back.so_many, not_earlier, not_later)

  next_busy : (d t : ℕ) → busy (t + d) ≡ true → NextBusy busy t
  next_busy zero t e =
      record { after = t; not_before = omega arith; busy_there = rw add-zero at e; idle_until = λ x l r. absurd (omega arith) }
  next_busy (suc d) t e = let later = next_busy d (suc t) in go (busy t) refl (λ idle. later (rw (suc-add t d, ← add-suc t d) e))
    where
      go : (b : Bool) → busy t ≡ b → (busy t ≡ false → NextBusy busy (suc t)) → NextBusy busy t
      go true here later =
          record { after = t; not_before = omega arith; busy_there = here; idle_until = λ x l r. absurd (omega arith) }
      go false here later =
          let next = later here in
          record {
            after = next.after;
            not_before = omega (arith, next.not_before);
            busy_there = next.busy_there;
            idle_until = λ x l r.
                ⊎_elim (λ past. next.idle_until x past r) (λ at. let same : x ≡ t = omega arith in rw same here) (lt_or_le t x);
          }

  module _ {L : ℕ} (repeats : Repeats busy L) (some : SomeBusy busy L) where
    back_from_second_span : (t : ℕ) → LookedBack busy (L + t)
    back_from_second_span t =
        let d = (L + t) - suc some.tick in
        let here : some.tick + suc d ≡ L + t = omega (arith, some.within) in
        subst (LookedBack busy) here (look_back some.tick d some.is_busy)

    -- in the second span, since the first idle slots of the first have no slot before them
    pub idle_slot_is_in_gap : (t : ℕ) → t < L → busy t ≡ false → InGap busy (L + t)
    idle_slot_is_in_gap t l idle =
        let back = back_from_second_span t in
        let d = (L + some.tick) - t in
        let there : (L + t) + d ≡ L + (L + some.tick) = omega arith in
        let busy_there : busy ((L + t) + d) ≡ true = rw there (repeats.again _ ∙ repeats.again _ ∙ some.is_busy) in
        let next = next_busy d (L + t) busy_there in
        let not_here : next.after ≡ L + t → ⊥ = λ e. false_not_true (repeats.again t ∙ idle) (subst (λ x. busy x ≡ true) e next.busy_there) in
        record {
          before = back.before;
          size = next.after - suc back.before;
          after = next.after;
          is_gap = record {
            some = omega (arith, back.so_many, next.not_before, not_here);
            sized = omega (arith, back.so_many, next.not_before);
            busy_before = back.busy_there;
            busy_after = next.busy_there;
            idle_between = λ x after before.
                ⊎_elim (λ below. back.idle_since x after below) (λ past. next.idle_until x past before) (lt_or_le x (L + t));
          };
          past_before = omega (arith, back.so_many);
          before_after = omega (arith, next.not_before, not_here);
        }

  -- the slot at tick t ends a gap where its number is not 0, and the number is the gap's size
  pub counted_is_gap : {L : ℕ} → Repeats busy L → (t : ℕ) → t < L → 0 < gap_ending_at busy L t →
      (before : ℕ) × Gap busy before (gap_ending_at busy L t) (L + t)
  unfolding gap_ending_at
  counted_is_gap {L} repeats t l = go (busy t) refl
    where
      go : (b : Bool) → busy t ≡ b → 0 < cond b (idle_before busy (L + t)) 0 →
          (before : ℕ) × Gap busy before (cond b (idle_before busy (L + t)) 0) (L + t)
      go true e above =
          let back = back_from_second_span repeats (record { tick = t; within = l; is_busy = e }) t in (
            back.before,
            record {
              some = above;
              sized = back.so_many;
              busy_before = back.busy_there;
              busy_after = repeats.again t ∙ e;
              idle_between = back.idle_since;
            },
          )
      go false e above = absurd (omega arith)

  pub gap_is_counted : {L : ℕ} → Repeats busy L → (t : ℕ) {before size : ℕ} → Gap busy before size (L + t) → gap_ending_at busy L t ≡ size
  unfolding gap_ending_at
  gap_is_counted {L} repeats t {before} {size} g =
      let here : busy t ≡ true = sym (repeats.again t) ∙ g.busy_after in
      rw (here, g.sized)
      (idle_before_of_run before size g.busy_before (λ x after l. g.idle_between x after (omega (arith, g.sized))))
