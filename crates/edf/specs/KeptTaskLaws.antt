-- "A row depends on .. that core's kept tasks only".
use Rattle.std.specs.Prelude.{ℕ, zero, suc, ◌<◌, ◌≡◌}
use Rattle.std.proofs.Common.{sym, ap₂, ◌∙◌, lt_of_lt_of_le}
use Rattle.edf.specs.Demand.{SameTask, KeptAlsoBy}
use Rattle.dispatch.specs.DispatchLaws.{left_at, ready_at, slot_is_choice, left_at_start, left_after_run, ready_le_ticks}
use Rattle.dispatch.specs.Earliest.{SameReady, choice_among_same, choice_unique}
use Rattle.dispatch.specs.Rows.{CoreTasks, due_at, after_release, after_run, slot_of}

-- of the tasks kept on the first core, both have the same left before tick t
abbrev SameLeft : CoreTasks → CoreTasks → ℕ → Type 0
SameLeft core core₂ t = (i : ℕ) → i < core.size → 0 < core.ticks i → left_at core t i ≡ left_at core₂ t i

module _ (core core₂ : CoreTasks) (also : KeptAlsoBy core₂ core) (t : ℕ) where
  same_ready : (i : ℕ) → SameTask core core₂ i → left_at core t i ≡ left_at core₂ t i → ready_at core t i ≡ ready_at core₂ t i
  unfolding ready_at after_release
  same_ready i same left = rw (same.same_period, same.same_ticks, left)

  same_due : (i : ℕ) → SameTask core core₂ i → due_at core t i ≡ due_at core₂ t i
  unfolding due_at
  same_due i same = rw (same.same_period, same.same_window)

  ready_also : SameLeft core core₂ t → SameReady (due_at core t) (ready_at core t) core.size (due_at core₂ t) (ready_at core₂ t) core₂.size
  ready_also left i l some =
      let kept : 0 < core.ticks i = lt_of_lt_of_le some (ready_le_ticks core t i l) in
      let same = also.kept_task i l kept in
      (same.is_task, same_ready i same (left i l kept), same_due i same)

module _ (core core₂ : CoreTasks) (also : KeptAlsoBy core₂ core) (also₂ : KeptAlsoBy core core₂) where
  other_way : (t : ℕ) → SameLeft core core₂ t → SameLeft core₂ core t
  other_way t left i l kept =
      let same = also₂.kept_task i l kept in sym (left i same.is_task (rw same.same_ticks at kept))

  same_slot : (t : ℕ) → SameLeft core core₂ t → slot_of core t ≡ slot_of core₂ t
  same_slot t left =
      choice_unique
      (choice_among_same (ready_also core core₂ also t left) (ready_also core₂ core also₂ t (other_way t left)) (slot_is_choice core t))
      (slot_is_choice core₂ t)

  same_left : (t : ℕ) → SameLeft core core₂ t
  same_left zero i l kept = left_at_start core i l ∙ sym (left_at_start core₂ i (also.kept_task i l kept).is_task)
  same_left (suc t) i l kept =
      let same = also.kept_task i l kept in
      left_after_run core t i l
      ∙ ap₂ (λ (slot left : ℕ). after_run slot i left)
      (same_slot t (same_left t))
      (same_ready core core₂ also t i same (same_left t i l kept))
      ∙ sym (left_after_run core₂ t i same.is_task)

  pub same_slots : (t : ℕ) → slot_of core t ≡ slot_of core₂ t
  same_slots t = same_slot t (same_left t)
