-- What dispatching does to each task's ticks left: `dispatched`, read task by task.
use Prim.Native.Nat.{ℕ, zero, suc, pred, ◌%◌, ◌≤◌, ◌<◌, zero-le}
use Rattle.std.specs.Prelude.{Bool, ◌≡◌, eqb, get_or}
use Rattle.std.proofs.Math.Bool.{true, false, cond}
use Rattle.std.proofs.Math.Path.{refl, ap}
use Rattle.std.proofs.Common.{◌∙◌, le_trans, eq-eqb, ne_eqb}
use Rattle.std.proofs.Math.Nat.{le_refl, pred-le}
use Rattle.std.proofs.Math.ListN.{get_or-replicate}
use Rattle.laws.specs.JoinedLaws.{get_d-list_of}
use Rattle.dispatch.specs.Earliest.{Choice, earliest_is_choice}
use Rattle.dispatch.specs.Rows.{CoreTasks, due_at, after_release, after_run, earliest, chosen, step, dispatched, slot_of}

-- the ticks left of task i before the releases of tick t
unfoldable pub left_at : CoreTasks → ℕ → ℕ → ℕ
left_at core t i = get_or (dispatched core t).left i 0

-- and after them
unfoldable pub ready_at : CoreTasks → ℕ → ℕ → ℕ
ready_at core t i = after_release core t i (left_at core t i)

pub after_release-at_release : (core : CoreTasks) (t i left : ℕ) → t % core.period i ≡ 0 → after_release core t i left ≡ core.ticks i
unfolding after_release
after_release-at_release core t i left e = rw e

pub after_release-between : (core : CoreTasks) (t i left : ℕ) → (t % core.period i ≡ 0 → ⊥) → after_release core t i left ≡ left
unfolding after_release
after_release-between core t i left n = rw (ne_eqb (t % core.period i) 0 n)

pub after_run-self : (i left : ℕ) → after_run (suc i) i left ≡ pred left
unfolding after_run
after_run-self i left = rw (eq-eqb (suc i) (suc i) refl)

pub after_run-other : (number i left : ℕ) → (suc i ≡ number → ⊥) → after_run number i left ≡ left
unfolding after_run
after_run-other number i left n = rw (ne_eqb (suc i) number n)

pub after_run-le : (number i left : ℕ) → after_run number i left ≤ left
unfolding after_run
after_run-le number i left = go (eqb (suc i) number)
  where
    go : (b : Bool) → cond b (pred left) left ≤ left
    go true = pred-le left
    go false = le_refl left

module _ (core : CoreTasks) where
  tick_of_dispatched : (t : ℕ) → (dispatched core t).tick ≡ t
  unfolding dispatched step
  tick_of_dispatched zero = refl
  tick_of_dispatched (suc t) = ap suc (tick_of_dispatched t)

  pub slot_is_earliest : (t : ℕ) → slot_of core t ≡ earliest (due_at core t) (ready_at core t) core.size
  unfolding dispatched step chosen ready_at left_at
  slot_is_earliest t = rw (tick_of_dispatched t)

  pub slot_is_choice : (t : ℕ) → Choice (due_at core t) (ready_at core t) core.size (slot_of core t)
  slot_is_choice t = rw (slot_is_earliest t) (earliest_is_choice (due_at core t) (ready_at core t) core.size)

  pub left_at_start : (i : ℕ) → i < core.size → left_at core 0 i ≡ 0
  unfolding left_at dispatched
  left_at_start i l = get_or-replicate core.size i 0 0 l

  pub left_after_run : (t i : ℕ) → i < core.size → left_at core (suc t) i ≡ after_run (slot_of core t) i (ready_at core t i)
  unfolding left_at ready_at dispatched step
  left_after_run t i l =
      let after : ℕ → ℕ → ℕ = λ now k. after_run (slot_of core t) k (after_release core now k (left_at core t k)) in
      get_d-list_of (after (dispatched core t).tick) core.size i 0 l ∙ ap (λ (now : ℕ). after now i) (tick_of_dispatched t)

  ready_le : (t i : ℕ) → left_at core t i ≤ core.ticks i → ready_at core t i ≤ core.ticks i
  unfolding ready_at after_release
  ready_le t i h = go (eqb (t % core.period i) 0)
    where
      go : (b : Bool) → cond b (core.ticks i) (left_at core t i) ≤ core.ticks i
      go true = le_refl (core.ticks i)
      go false = h

  left_le_ticks : (t i : ℕ) → i < core.size → left_at core t i ≤ core.ticks i
  left_le_ticks zero i l = rw (left_at_start i l) zero-le
  left_le_ticks (suc t) i l =
      rw (left_after_run t i l) (le_trans (after_run-le (slot_of core t) i (ready_at core t i)) (ready_le t i (left_le_ticks t i l)))

  pub ready_le_ticks : (t i : ℕ) → i < core.size → ready_at core t i ≤ core.ticks i
  ready_le_ticks t i l = ready_le t i (left_le_ticks t i l)
