-- "A row depends on .. that core's kept tasks only": with nothing but these, in their order, a core has the same row, but for
-- the tasks' numbers.
use Prim.Native.Nat.{ℕ, zero, suc, ◌-◌, ◌≤◌, ◌<◌}
use Rattle.std.proofs.Math.Logic.{⊎_elim}
use Rattle.std.specs.Prelude.{◌≡◌, refl}
use Rattle.std.proofs.Math.Path.{sym}
use Rattle.std.proofs.Common.{ap, ◌∙◌, eq-zero-or-pos, eq-or-lt_of_le, lt_of_lt_of_le, arith}
use Rattle.laws.specs.Below.{lt_or_le}
use Rattle.laws.specs.JoinedLaws.{list_of-same}
use Rattle.laws.specs.Lists.{list_of}
use Rattle.dispatch.specs.DispatchLaws.{left_at, ready_at, slot_is_choice, left_at_start, left_after_run, ready_le_ticks}
use Rattle.dispatch.specs.DispatchLaws.{after_run-self, after_run-other}
use Rattle.dispatch.specs.Earliest.{Choice, choice_unique, chosen_le_size}
use Rattle.dispatch.specs.Rows.{CoreTasks, due_at, after_release, after_run, slot_of, row}

-- what a slot of the selected tasks shows, by the tasks' own numbers
unfoldable pub numbered : (number : ℕ → ℕ) → ℕ → ℕ
numbered number zero = 0
numbered number (suc j) = number j

pub numbered_task : (number : ℕ → ℕ) (slot : ℕ) → 0 < slot → numbered number slot ≡ number (slot - 1)
unfolding numbered
numbered_task number zero some = absurd (omega arith)
numbered_task number (suc j) some = let place : j ≡ suc j - 1 = omega arith in ap number place

pub numbered_same : (number number₂ : ℕ → ℕ) (n : ℕ) → ((j : ℕ) → j < n → number j ≡ number₂ j) →
    (slot : ℕ) → slot ≤ n → numbered number slot ≡ numbered number₂ slot
unfolding numbered
numbered_same number number₂ n same zero l = refl
numbered_same number number₂ n same (suc j) l = same j l

-- tasks of a core, in ascending order: the j-th is task `place j` of the core. No task with ticks is left out.
pub record Selected (core kept : CoreTasks) (place : ℕ → ℕ) : Type 0 where
  pub is_task : (j : ℕ) → j < kept.size → place j < core.size
  pub ascending : (i j : ℕ) → i < j → j < kept.size → place i < place j
  pub same_period : (j : ℕ) → j < kept.size → kept.period j ≡ core.period (place j)
  pub same_window : (j : ℕ) → j < kept.size → kept.window j ≡ core.window (place j)
  pub same_ticks : (j : ℕ) → j < kept.size → kept.ticks j ≡ core.ticks (place j)
  pub every_task : (i : ℕ) → i < core.size → 0 < core.ticks i → (j : ℕ) × (j < kept.size) × (place j ≡ i)

module _ (core kept : CoreTasks) (place : ℕ → ℕ) (selected : Selected core kept place) where
  abbrev number : ℕ → ℕ
  number j = suc (place j)

  place_le : (i j : ℕ) → i ≤ j → j < kept.size → place i ≤ place j
  place_le i j l m =
      ⊎_elim (λ (e : i ≡ j). rw e (omega arith)) (λ (b : i < j). omega (arith, selected.ascending i j b m)) (eq-or-lt_of_le l)

  -- each selected task has as many ticks left as on the core, where only tasks with ticks have some left
  module _ (t : ℕ) (left left_of_kept : ℕ → ℕ) (same : (j : ℕ) → j < kept.size → left_of_kept j ≡ left (place j))
      (no_others : (i : ℕ) → i < core.size → 0 < left i → 0 < core.ticks i) where
    same_due : (j : ℕ) → j < kept.size → due_at kept t j ≡ due_at core t (place j)
    unfolding due_at
    same_due j l = rw (selected.same_period j l, selected.same_window j l)

    -- a task with ticks left is among the selected
    is_selected : (i : ℕ) → i < core.size → 0 < left i → (j : ℕ) × (j < kept.size) × (place j ≡ i)
    is_selected i l some = selected.every_task i l (no_others i l some)

    pub choice_of_all : {slot : ℕ} → Choice (due_at kept t) left_of_kept kept.size slot →
        Choice (due_at core t) left core.size (numbered number slot)
    unfolding numbered
    choice_of_all (Choice.idle all) =
        Choice.idle
        (λ i l.
        ⊎_elim
        (λ none. none)
        (λ some.
        let j = is_selected i l some in
        absurd (omega (arith, all j.0 j.1, same j.0 j.1, rw (← j.2) at some)))
        (eq-zero-or-pos (left i)))
    choice_of_all (Choice.runs k l has first lower) =
        let due = same_due k l in
        Choice.runs
        (place k)
        (selected.is_task k l)
        (rw (same k l) at has)
        (λ i m some.
        let j = is_selected i m some in
        let its : 0 < left (place j.0) = rw j.2 some in
        let its_due = first j.0 j.1 (rw (same j.0 j.1) its) in
        rw (← j.2) (omega (arith, due, same_due j.0 j.1, its_due)))
        (λ i m some.
        let j = is_selected i (omega (arith, selected.is_task k l)) some in
        let its : 0 < left (place j.0) = rw j.2 some in
        let before : j.0 < k =
        ⊎_elim (λ b. b) (λ (from : k ≤ j.0). absurd (omega (arith, place_le k j.0 from j.1, j.2))) (lt_or_le j.0 k) in
        let its_due = lower j.0 before (rw (same j.0 j.1) its) in
        rw (← j.2) (omega (arith, due, same_due j.0 j.1, its_due)))

  -- both have the same left in dispatching
  abbrev SameLeft : ℕ → Type 0
  SameLeft t = (j : ℕ) → j < kept.size → left_at kept t j ≡ left_at core t (place j)

  module _ (t : ℕ) (left : SameLeft t) where
    same_ready : (j : ℕ) → j < kept.size → ready_at kept t j ≡ ready_at core t (place j)
    unfolding ready_at after_release
    same_ready j l = rw (selected.same_period j l, selected.same_ticks j l, left j l)

    same_slot : slot_of core t ≡ numbered number (slot_of kept t)
    same_slot =
        choice_unique
        (slot_is_choice core t)
        (choice_of_all t (ready_at core t) (ready_at kept t) same_ready (λ i l some. lt_of_lt_of_le some (ready_le_ticks core t i l))
        (slot_is_choice kept t))

  -- who runs among the selected is who runs on the core
  same_run : (slot j left : ℕ) → j < kept.size → slot ≤ kept.size → after_run slot j left ≡ after_run (numbered number slot) (place j) left
  unfolding numbered
  same_run zero j left l m = after_run-other 0 j left (λ e. omega arith) ∙ sym (after_run-other 0 (place j) left (λ e. omega arith))
  same_run (suc k) j left l m =
      ⊎_elim
      (λ (b : j < k). other (λ e. omega arith) (λ e. omega (arith, selected.ascending j k b m)))
      (λ (from : k ≤ j).
      ⊎_elim
      (λ (e : k ≡ j). rw e (after_run-self j left ∙ sym (after_run-self (place j) left)))
      (λ (b : k < j). other (λ e. omega arith) (λ e. omega (arith, selected.ascending k j b l)))
      (eq-or-lt_of_le from))
      (lt_or_le j k)
    where
      other : (suc j ≡ suc k → ⊥) → (suc (place j) ≡ suc (place k) → ⊥) →
          after_run (suc k) j left ≡ after_run (suc (place k)) (place j) left
      other differs there = after_run-other (suc k) j left differs ∙ sym (after_run-other (suc (place k)) (place j) left there)

  same_left : (t : ℕ) → SameLeft t
  same_left zero j l = left_at_start kept j l ∙ sym (left_at_start core (place j) (selected.is_task j l))
  same_left (suc t) j l =
      let left = same_left t in
      left_after_run kept t j l
      ∙ ap (after_run (slot_of kept t) j) (same_ready t left j l)
      ∙ same_run (slot_of kept t) j (ready_at core t (place j)) l (chosen_le_size (slot_is_choice kept t))
      ∙ ap (λ (slot : ℕ). after_run slot (place j) (ready_at core t (place j))) (sym (same_slot t left))
      ∙ sym (left_after_run core t (place j) (selected.is_task j l))

  slots_of_selected : (t : ℕ) → slot_of core t ≡ numbered number (slot_of kept t)
  slots_of_selected t = same_slot t (same_left t)

  pub row_of_selected : (its : ℕ → ℕ) → ((j : ℕ) → j < kept.size → its j ≡ suc (place j)) →
      (n : ℕ) → list_of (λ t. numbered its (slot_of kept t)) n ≡ row core n
  unfolding row
  row_of_selected its same n =
      list_of-same _ (slot_of core) n
      (λ t l. numbered_same its number kept.size same (slot_of kept t) (chosen_le_size (slot_is_choice kept t)) ∙ sym (slots_of_selected t))
