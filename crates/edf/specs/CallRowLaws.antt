-- Without reports the calls answer the row, slot after slot.
use Rattle.std.specs.Prelude.{ℕ, zero, suc, ◌%◌, ◌/◌, ◌<◌, Bool, false, ◌≡◌}
use Rattle.std.proofs.Common.{sym, ap, ap₂, ◌∙◌, add-zero, div-add-mod'}
use Rattle.dispatch.specs.Calls.{after_end, answered}
use Rattle.dispatch.specs.DispatchLaws.{left_at, ready_at, slot_is_choice, left_at_start, left_after_run}
use Rattle.dispatch.specs.Earliest.{choice_moved, choice_unique}
use Rattle.dispatch.specs.Rows.{CoreTasks, due_at, after_release, after_run, slot_of}
use Rattle.edf.specs.CallRunLaws.{left_before, left_over, ready_at_call, nothing_left_before_first, answer_is_choice, left_after_call}
use Rattle.edf.specs.Demand.{WholePeriods}
use Rattle.edf.specs.WholeSpanLaws.{slot_repeats}

module _ (core : CoreTasks) (span : ℕ) (reports : ℕ → Bool) (whole : WholePeriods core span) (none : (n : ℕ) → reports n ≡ false) where
  -- a call finds the ticks left that the row has
  abbrev SameLeft : ℕ → Type 0
  SameLeft n = (i : ℕ) → i < core.size → left_before core span reports n i ≡ left_at core n i

  same_ready : (n : ℕ) → SameLeft n → (i : ℕ) → i < core.size → ready_at_call core span reports n i ≡ ready_at core n i
  unfolding ready_at_call left_over ready_at after_end
  same_ready n left i l = rw (none n) (ap (after_release core n i) (left i l))

  same_slot : (n : ℕ) → SameLeft n → answered core span reports n ≡ slot_of core n
  same_slot n left =
      choice_unique
      (choice_moved 0 (same_ready n left) (λ i l. sym (add-zero (due_at core n i))) (answer_is_choice core span reports whole n))
      (slot_is_choice core n)

  same_left : (n : ℕ) → SameLeft n
  same_left zero i l = nothing_left_before_first core span reports i l ∙ sym (left_at_start core i l)
  same_left (suc n) i l =
      left_after_call core span reports whole n i l
      ∙ ap₂ (λ (slot left : ℕ). after_run slot i left) (same_slot n (same_left n)) (same_ready n (same_left n) i l)
      ∙ sym (left_after_run core n i l)

  pub answers_are_row : (n : ℕ) → answered core span reports n ≡ slot_of core (n % span)
  answers_are_row n =
      same_slot n (same_left n)
      ∙ ap (slot_of core) (sym (div-add-mod' n span))
      ∙ slot_repeats core span whole (n / span) (n % span)
