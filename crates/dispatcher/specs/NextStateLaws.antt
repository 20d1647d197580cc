-- The state after a call: it fits again.
use Rattle.std.specs.Prelude.{ℕ, suc, pred, ◌≤◌, ◌<◌, Bool, true, false, cond, ◌⊎◌, ◌≡◌, refl, eqb}
use Rattle.std.proofs.Common.{inl, inr, le_trans, lt_of_lt_of_le, arith}
use Rattle.std.proofs.Math.ListN.{get_or, get_or-eq_default}
use Rattle.std.proofs.lemmas.Bool.{eqb-false}
use Rattle.laws.specs.Below.{lt_or_le}
use Rattle.laws.specs.JoinedLaws.{get_d-list_of}
use Rattle.ranges.specs.Limits.{most_tasks}
use Rattle.dispatch.specs.CallLaws.{ready_for, ready_for_at_most, call_answers_choice, call_leaves, call_has_length}
use Rattle.dispatch.specs.Calls.{ended_early, wrapped, call}
use Rattle.dispatch.specs.DispatchLaws.{after_run-le}
use Rattle.dispatch.specs.Earliest.{Choice}
use Rattle.dispatch.specs.Rows.{CoreTasks, Dispatch, due_at, step}
use Rattle.dispatcher.specs.StateLaws.{FittingState, state_fits_iff, ticks_of_task}
use Rattle.dispatcher.specs.States.{as_dispatch, as_state, ticks_of, state_fits}
use Rattle.dispatcher.specs.declared.DispatchState.{DispatchState}

-- the tick after one below the span is below it again
wrapped_below : (tick span : ℕ) → tick < span → cond (eqb (suc tick) span) 0 (suc tick) < span
wrapped_below tick span below = go (eqb (suc tick) span) refl
  where
    go : (at_end : Bool) → eqb (suc tick) span ≡ at_end → cond at_end 0 (suc tick) < span
    go true e = omega arith
    go false e = omega (arith, eqb-false (suc tick) span e)

module _ (core : CoreTasks) (few : core.size ≤ most_tasks) (span : ℕ) (s : DispatchState) (ended : Bool) (fit : FittingState core span s) where
  abbrev after : Dispatch
  after = call core span ended (as_dispatch s)

  task_left_at_most : (i : ℕ) → i < core.size → get_or s.left i 0 ≤ core.ticks i
  task_left_at_most i l = rw (ticks_of_task core i l) at (fit.left_at_most i (omega arith))

  pub ready_at_most : (i : ℕ) → i < core.size → ready_for core ended (as_dispatch s) i ≤ core.ticks i
  ready_at_most i l = ready_for_at_most core ended (as_dispatch s) i (task_left_at_most i l)

  -- no task has more left than a job of it has, however many tasks there are
  pub left_after_at_most : (i : ℕ) → get_or after.left i 0 ≤ ticks_of core i
  left_after_at_most i = go (lt_or_le i core.size)
    where
      go : (i < core.size) ⊎ (core.size ≤ i) → get_or after.left i 0 ≤ ticks_of core i
      go (inl l) =
          rw (ticks_of_task core i l, call_leaves core span ended (as_dispatch s) i l)
          (le_trans (after_run-le after.last i (ready_for core ended (as_dispatch s) i)) (ready_at_most i l))
      go (inr beyond) =
          rw (get_or-eq_default after.left 0 {n = i} (omega (arith, call_has_length core span ended (as_dispatch s)))) (omega arith)

  -- the task that runs has ticks
  answer_has_ticks : (number : ℕ) → Choice (due_at core s.tick) (ready_for core ended (as_dispatch s)) core.size number →
      (number ≡ 0 → ⊥) → 0 < ticks_of core (pred number)
  answer_has_ticks number (Choice.idle all) some = absurd (some refl)
  answer_has_ticks number (Choice.runs k l has first lower) some = rw (ticks_of_task core k l) (lt_of_lt_of_le has (ready_at_most k l))

  -- "From any accepted state the next state is accepted again"
  next_state_is_fitting : FittingState core span (as_state after)
  unfolding call wrapped step ended_early
  next_state_is_fitting = record {
    tick_below = wrapped_below s.tick span fit.tick_below;
    left_at_most = λ i l. rw (get_d-list_of (λ i. get_or after.left i 0) most_tasks i 0 l) (left_after_at_most i);
    last_has_ticks = answer_has_ticks after.last (call_answers_choice core span ended (as_dispatch s));
  }

pub next_state_fits : (core : CoreTasks) → core.size ≤ most_tasks → (span : ℕ) (s : DispatchState) (ended : Bool) →
    state_fits core span s ≡ true → state_fits core span (as_state (call core span ended (as_dispatch s))) ≡ true
next_state_fits core few span s ended fits =
    (state_fits_iff core span (as_state (call core span ended (as_dispatch s)))).1
    (next_state_is_fitting core few span s ended ((state_fits_iff core span s).0 fits))
