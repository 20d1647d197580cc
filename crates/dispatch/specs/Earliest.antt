-- What `earliest` chooses, as a relation: the earliest due of the tasks that have ticks left, of equal ones the lowest.
use Prim.Native.Nat.{ℕ, zero, suc, pred, ◌+◌, ◌≤◌, ◌<◌, zero-le}
use Rattle.std.specs.Prelude.{Bool, cond, List, ◌≡◌, Option, Some, None, IfSome, ltb, length, get_or}
use Rattle.std.proofs.Math.Bool.{true, false}
use Rattle.std.proofs.Common.{⊎_elim, sym, ◌∙◌, le_refl, le_of_lt, pos_of_ne-zero, eq-zero-or-pos, arith, eqb-true, ltb-true, ltb-false, ne_eqb}
use Rattle.std.proofs.Math.Path.{refl}
use Rattle.std.proofs.Math.Nat.{le_step}
use Rattle.std.proofs.Math.Dec.{eqb}
use Rattle.std.proofs.lemmas.Bool.{eqb-false}
use Rattle.laws.specs.Below.{lt_or_le, below_suc}
use Rattle.dispatch.specs.Chosen.{HasTicks, number_of}
use Rattle.dispatch.specs.Rows.{earliest}

-- the number chosen among the tasks below n: 0 where none has ticks left; else that of one with ticks left, such that
-- none of them is due earlier, and none of a lower number is due at the same tick
pub data Choice (due left : ℕ → ℕ) (n : ℕ) : ℕ → Type 0 where
  idle : ((i : ℕ) → i < n → left i ≡ 0) → Choice due left n 0
  runs : (k : ℕ) → k < n → 0 < left k → ((i : ℕ) → i < n → 0 < left i → due k ≤ due i) →
      ((i : ℕ) → i < k → 0 < left i → due k < due i) → Choice due left n (suc k)

module _ (due left : ℕ → ℕ) where
  -- one more task, that has nothing left
  passed_over : (n best : ℕ) → left n ≡ 0 → Choice due left n best → Choice due left (suc n) best
  passed_over n best none (Choice.idle all) = Choice.idle (below_suc (λ i. left i ≡ 0) n all none)
  passed_over n best none (Choice.runs k l has first lower) =
      Choice.runs k (le_step l) has (below_suc (λ i. 0 < left i → due k ≤ due i) n first (λ h. absurd (omega arith))) lower

  -- one more task, that has ticks left
  entered : (n best : ℕ) → 0 < left n → Choice due left n best →
      Choice due left (suc n) (cond (eqb best 0) (suc n) (cond (ltb (due n) (due (pred best))) (suc n) best))
  entered n best has (Choice.idle all) =
      Choice.runs
      n
      (le_refl (suc n))
      has
      (below_suc (λ i. 0 < left i → due n ≤ due i) n (λ i l h. absurd (omega (arith, all i l))) (λ h. le_refl (due n)))
      (λ i l h. absurd (omega (arith, all i l)))
  entered n best has (Choice.runs k l more first lower) =
      rw (ne_eqb (suc k) 0 (λ e. omega arith)) (go (ltb (due n) (due k)) refl)
    where
      go : (b : Bool) → ltb (due n) (due k) ≡ b → Choice due left (suc n) (cond (ltb (due n) (due k)) (suc n) (suc k))
      go true e =
          let earlier : due n < due k = ltb-true (due n) (due k) e in
          let before : (i : ℕ) → i < n → 0 < left i → due n < due i = λ i m h. omega (arith, first i m h) in
          rw
          e
          (Choice.runs
          n
          (le_refl (suc n))
          has
          (below_suc (λ i. 0 < left i → due n ≤ due i) n (λ i m h. le_of_lt (before i m h)) (λ h. le_refl (due n)))
          before)
      go false e =
          let later : due k ≤ due n = ltb-false (due n) (due k) e in
          rw e (Choice.runs k (le_step l) more (below_suc (λ i. 0 < left i → due k ≤ due i) n first (λ h. later)) lower)

  pub earliest_is_choice : (n : ℕ) → Choice due left n (earliest due left n)
  unfolding earliest
  earliest_is_choice zero = Choice.idle (λ i l. absurd (omega arith))
  earliest_is_choice (suc n) = go (eqb (left n) 0) refl (earliest_is_choice n)
    where
      go : (b : Bool) → eqb (left n) 0 ≡ b → Choice due left n (earliest due left n) → Choice due left (suc n) (earliest due left (suc n))
      go true e c = rw e (passed_over n (earliest due left n) (eqb-true (left n) 0 e) c)
      go false e c = rw e (entered n (earliest due left n) (pos_of_ne-zero (eqb-false (left n) 0 e)) c)

-- there is one choice
pub choice_unique : {due left : ℕ → ℕ} {n a b : ℕ} → Choice due left n a → Choice due left n b → a ≡ b
choice_unique (Choice.idle all) (Choice.idle likewise) = refl
choice_unique (Choice.idle all) (Choice.runs m l has first lower) = absurd (omega (arith, all m l))
choice_unique (Choice.runs k l has first lower) (Choice.idle all) = absurd (omega (arith, all k l))
choice_unique (Choice.runs k l has first lower) (Choice.runs m l₂ has₂ first₂ lower₂) =
    ⊎_elim
    (λ before. absurd (omega (arith, lower₂ k before has, first m l₂ has₂)))
    (λ (from : m ≤ k).
    ⊎_elim
    (λ before. absurd (omega (arith, lower m before has₂, first₂ k l has)))
    (λ (to : k ≤ m). omega arith)
    (lt_or_le m k))
    (lt_or_le k m)

-- each of the n tasks that has ticks left is among the n₂, with as many left and due at the same tick
abbrev pub SameReady : (due left : ℕ → ℕ) → ℕ → (due₂ left₂ : ℕ → ℕ) → ℕ → Type 0
SameReady due left n due₂ left₂ n₂ = (i : ℕ) → i < n → 0 < left i → (i < n₂) × (left i ≡ left₂ i) × (due i ≡ due₂ i)

-- it depends on the tasks that have ticks left, however many others there are
pub choice_among_same : {due left due₂ left₂ : ℕ → ℕ} {n n₂ number : ℕ} →
    SameReady due left n due₂ left₂ n₂ → SameReady due₂ left₂ n₂ due left n →
    Choice due left n number → Choice due₂ left₂ n₂ number
choice_among_same {left₂ = left₂} to from (Choice.idle all) =
    Choice.idle (λ i l. ⊎_elim (λ none. none) (λ some. let back = from i l some in absurd (omega (arith, all i back.0))) (eq-zero-or-pos (left₂ i)))
choice_among_same {due} {left} {due₂} {left₂} to from (Choice.runs k l has first lower) =
    let there = to k l has in
    Choice.runs
    k
    there.0
    (rw there.1 at has)
    (λ i m some. let back = from i m some in omega (arith, first i back.0 (rw back.1 at some)))
    (λ i m some. let back = from i (omega arith) some in omega (arith, lower i m (rw back.1 at some)))

-- all due ticks may be moved alike
pub choice_moved : {due left due₂ left₂ : ℕ → ℕ} {n number : ℕ} (c : ℕ) → ((i : ℕ) → i < n → left i ≡ left₂ i) →
    ((i : ℕ) → i < n → due₂ i ≡ due i + c) → Choice due left n number → Choice due₂ left₂ n number
choice_moved c same moved (Choice.idle all) = Choice.idle (λ i l. sym (same i l) ∙ all i l)
choice_moved {n = n} c same moved (Choice.runs k l has first lower) =
    Choice.runs
    k
    l
    (rw (same k l) at has)
    (λ i m some. omega (arith, moved k l, moved i m, first i m (rw (same i m) some)))
    (λ i m some. let below : i < n = omega arith in omega (arith, moved k l, moved i below, lower i m (rw (same i below) some)))

pub chosen_le_size : {due left : ℕ → ℕ} {n number : ℕ} → Choice due left n number → number ≤ n
chosen_le_size (Choice.idle all) = zero-le
chosen_le_size (Choice.runs k l has first lower) = l

pub chosen_has_left : {due left : ℕ → ℕ} {n number : ℕ} (k : ℕ) → Choice due left n number → number ≡ suc k → 0 < left k
chosen_has_left k (Choice.idle all) e = absurd (omega arith)
chosen_has_left k (Choice.runs m l has first lower) e = let same : m ≡ k = omega arith in rw same at has

-- a task that is chosen has ticks left
pub earliest_has_ticks : (due : ℕ → ℕ) (left : List ℕ) (n : ℕ) (task : Option ℕ) → n ≤ length left →
    number_of task ≡ earliest due (λ i. get_or left i 0) n → IfSome task (HasTicks left)
earliest_has_ticks due left n None within e = tt
earliest_has_ticks due left n (Some i) within e =
    let chosen : Choice due (λ i. get_or left i 0) n (suc i) = rw e (earliest_is_choice due (λ i. get_or left i 0) n) in
    (omega (arith, chosen_le_size chosen), chosen_has_left i chosen refl)

-- the choice depends on what is left, and on the due ticks of the tasks that have ticks left
pub earliest_cong : (due left due₂ left₂ : ℕ → ℕ) (n : ℕ) → ((i : ℕ) → i < n → left i ≡ left₂ i) →
    ((i : ℕ) → i < n → 0 < left i → due i ≡ due₂ i) → earliest due left n ≡ earliest due₂ left₂ n
unfolding earliest
earliest_cong due left due₂ left₂ zero same_left same_due = refl
earliest_cong due left due₂ left₂ (suc n) same_left same_due =
    let same_before : earliest due left n ≡ earliest due₂ left₂ n =
    earliest_cong due left due₂ left₂ n (λ i l. same_left i (le_step l)) (λ i l. same_due i (le_step l)) in
    rw (← same_before, ← (same_left n (le_refl (suc n)))) (go (eqb (left n) 0) refl (earliest due left n) (earliest_is_choice due left n))
  where
    go : (b : Bool) → eqb (left n) 0 ≡ b → (best : ℕ) → Choice due left n best →
        cond (eqb (left n) 0) best (cond (eqb best 0) (suc n) (cond (ltb (due n) (due (pred best))) (suc n) best))
        ≡ cond (eqb (left n) 0) best (cond (eqb best 0) (suc n) (cond (ltb (due₂ n) (due₂ (pred best))) (suc n) best))
    go true e best c = rw e
    go false e best (Choice.idle all) = refl
    go false e best (Choice.runs k l has first lower) =
        rw (same_due k (le_step l) has, same_due n (le_refl (suc n)) (pos_of_ne-zero (eqb-false (left n) 0 e)))
