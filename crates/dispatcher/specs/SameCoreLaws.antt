-- A call depends on the tasks that have ticks: two cores that have the same of these answer alike.
use Rattle.std.specs.Prelude.{ℕ, ◌≤◌, ◌<◌, Bool, ◌||◌, ◌&&◌, ◌⊎◌, ◌≡◌, leb, ltb, eqb, get_or}
use Rattle.std.proofs.Common.{inl, inr, ⊎_elim, ap, ◌∙◌, eq-zero-or-pos, lt_of_lt_of_le, arith}
use Rattle.std.proofs.Math.Path.{refl, sym, ap₂}
use Rattle.laws.specs.Below.{lt_or_le}
use Rattle.laws.specs.JoinedLaws.{list_of-same}
use Rattle.ranges.specs.Limits.{most_tasks}
use Rattle.dispatch.specs.CallLaws.{ready_for, call_answers_choice, call_leaves}
use Rattle.dispatch.specs.Calls.{ended_early, wrapped, call}
use Rattle.dispatch.specs.Earliest.{SameReady, choice_among_same, choice_unique}
use Rattle.dispatch.specs.Rows.{CoreTasks, due_at, after_release, after_run, step}
use Rattle.dispatch.specs.SelectedTasks.{Selected}
use Rattle.dispatcher.specs.NextStateLaws.{left_after_at_most, ready_at_most}
use Rattle.dispatcher.specs.StateLaws.{FittingState, no_ticks_beyond, ticks_of_task}
use Rattle.dispatcher.specs.States.{as_dispatch, as_state, ticks_of, left_fits, last_fits, state_fits}
use Rattle.dispatcher.specs.TestLaws.{every_same}
use Rattle.dispatcher.specs.declared.DispatchState.{DispatchState}

pub record SameCore (core core₂ : CoreTasks) : Type 0 where
  pub same_ticks : (i : ℕ) → ticks_of core i ≡ ticks_of core₂ i
  pub same_period : (i : ℕ) → 0 < ticks_of core i → core.period i ≡ core₂.period i
  pub same_window : (i : ℕ) → 0 < ticks_of core i → core.window i ≡ core₂.window i

-- the other way round
turned : {core core₂ : CoreTasks} → SameCore core core₂ → SameCore core₂ core
turned same = record {
  same_ticks = λ i. sym (same.same_ticks i);
  same_period = λ i some. sym (same.same_period i (rw (same.same_ticks i) some));
  same_window = λ i some. sym (same.same_window i (rw (same.same_ticks i) some));
}

task_of_ticks : (core : CoreTasks) (i : ℕ) → 0 < ticks_of core i → i < core.size
task_of_ticks core i some =
    ⊎_elim (λ l. l) (λ (beyond : core.size ≤ i). absurd (omega (arith, no_ticks_beyond core i beyond))) (lt_or_le i core.size)

pub same_state_fits : (core core₂ : CoreTasks) → SameCore core core₂ → (span : ℕ) (s : DispatchState) → state_fits core span s ≡ state_fits core₂ span s
unfolding state_fits left_fits last_fits
same_state_fits core core₂ same span s =
    ap₂ (λ (left last : Bool). ltb s.tick span && left && last)
    (every_same _ _ most_tasks (λ i l. ap (leb (get_or s.left i 0)) (same.same_ticks i)))
    (ap (λ (ticks : ℕ). eqb s.last 0 || ltb 0 ticks) (same.same_ticks _))

module _ (core core₂ : CoreTasks) (same : SameCore core core₂) (few : core.size ≤ most_tasks) (few₂ : core₂.size ≤ most_tasks) (span : ℕ)
    (s : DispatchState) (ended : Bool) (fit : FittingState core span s) where
  ready_also : SameReady (due_at core s.tick) (ready_for core ended (as_dispatch s)) core.size
      (due_at core₂ s.tick) (ready_for core₂ ended (as_dispatch s)) core₂.size
  unfolding due_at ready_for after_release
  ready_also i l some =
      let has : 0 < ticks_of core i = rw (ticks_of_task core i l) (lt_of_lt_of_le some (ready_at_most core few span s ended fit i l)) in
      let there : i < core₂.size = task_of_ticks core₂ i (rw (same.same_ticks i) at has) in
      let ticks : core.ticks i ≡ core₂.ticks i = sym (ticks_of_task core i l) ∙ same.same_ticks i ∙ ticks_of_task core₂ i there in
      (there, rw (same.same_period i has, ticks) refl, rw (same.same_period i has, same.same_window i has) refl)

same_fitting : {core core₂ : CoreTasks} {span : ℕ} {s : DispatchState} → SameCore core core₂ → FittingState core span s → FittingState core₂ span s
same_fitting same fit = record {
  tick_below = fit.tick_below;
  left_at_most = λ i l. rw (← (same.same_ticks i)) (fit.left_at_most i l);
  last_has_ticks = λ some. rw (← (same.same_ticks _)) (fit.last_has_ticks some);
}

module _ (core core₂ : CoreTasks) (same : SameCore core core₂) (few : core.size ≤ most_tasks) (few₂ : core₂.size ≤ most_tasks) (span : ℕ)
    (s : DispatchState) (ended : Bool) (fit : FittingState core span s) where
  fit₂ : FittingState core₂ span s
  fit₂ = same_fitting same fit

  pub same_answer : (call core span ended (as_dispatch s)).last ≡ (call core₂ span ended (as_dispatch s)).last
  same_answer =
      choice_unique
      (choice_among_same
      (ready_also core core₂ same few few₂ span s ended fit)
      (ready_also core₂ core (turned same) few₂ few span s ended fit₂)
      (call_answers_choice core span ended (as_dispatch s)))
      (call_answers_choice core₂ span ended (as_dispatch s))

  -- where a task has ticks, both cores have it, with the same left when they choose
  same_left_of_task : (i : ℕ) → 0 < ticks_of core i →
      get_or (call core span ended (as_dispatch s)).left i 0 ≡ get_or (call core₂ span ended (as_dispatch s)).left i 0
  unfolding ready_for after_release
  same_left_of_task i has =
      let here : i < core.size = task_of_ticks core i has in
      let there : i < core₂.size = task_of_ticks core₂ i (rw (same.same_ticks i) at has) in
      let ticks : core.ticks i ≡ core₂.ticks i = sym (ticks_of_task core i here) ∙ same.same_ticks i ∙ ticks_of_task core₂ i there in
      let ready : ready_for core ended (as_dispatch s) i ≡ ready_for core₂ ended (as_dispatch s) i = rw (same.same_period i has, ticks) refl in
      call_leaves core span ended (as_dispatch s) i here
      ∙ ap₂ (λ (number left : ℕ). after_run number i left) same_answer ready
      ∙ sym (call_leaves core₂ span ended (as_dispatch s) i there)

  same_left : (i : ℕ) → get_or (call core span ended (as_dispatch s)).left i 0 ≡ get_or (call core₂ span ended (as_dispatch s)).left i 0
  same_left i = go (eq-zero-or-pos (ticks_of core i))
    where
      go : (ticks_of core i ≡ 0) ⊎ (0 < ticks_of core i) →
          get_or (call core span ended (as_dispatch s)).left i 0 ≡ get_or (call core₂ span ended (as_dispatch s)).left i 0
      go (inl none) =
          omega (
            arith,
            same.same_ticks i,
            left_after_at_most core few span s ended fit i,
            left_after_at_most core₂ few₂ span s ended fit₂ i,
          )
      go (inr has) = same_left_of_task i has

  pub same_next_state : as_state (call core span ended (as_dispatch s)) ≡ as_state (call core₂ span ended (as_dispatch s))
  unfolding call wrapped step ended_early
  same_next_state =
      let lists = list_of-same _ _ most_tasks (λ i l. same_left i) in
      λ i. record { tick = (as_state (call core span ended (as_dispatch s))).tick; left = lists i; last = same_answer i }

-- the tasks selected of one core are those selected of another, and none with ticks is left out of either
module _ (core core₂ kept : CoreTasks) (place place₂ : ℕ → ℕ) (agree : (j : ℕ) → j < kept.size → place j ≡ place₂ j)
    (selected : Selected core kept place) (selected₂ : Selected core₂ kept place₂) where
  record Found (i : ℕ) : Type 0 where
    here : i < core.size
    there : i < core₂.size
    period : core.period i ≡ core₂.period i
    window : core.window i ≡ core₂.window i
    ticks : core.ticks i ≡ core₂.ticks i

  -- a task with ticks of the first is the same of the second
  found : (i : ℕ) → 0 < ticks_of core i → Found i
  found i some =
      let l = task_of_ticks core i some in
      let at = selected.every_task i l (rw (ticks_of_task core i l) at some) in
      let same_place = agree at.0 at.1 in
      rw (← at.2)
      (record {
        here = selected.is_task at.0 at.1;
        there = rw same_place (selected₂.is_task at.0 at.1);
        period = sym (selected.same_period at.0 at.1) ∙ rw (← same_place) at (selected₂.same_period at.0 at.1);
        window = sym (selected.same_window at.0 at.1) ∙ rw (← same_place) at (selected₂.same_window at.0 at.1);
        ticks = sym (selected.same_ticks at.0 at.1) ∙ rw (← same_place) at (selected₂.same_ticks at.0 at.1);
      })

  ticks_of_found : (i : ℕ) → 0 < ticks_of core i → ticks_of core i ≡ ticks_of core₂ i
  ticks_of_found i some =
      let its = found i some in ticks_of_task core i its.here ∙ its.ticks ∙ sym (ticks_of_task core₂ i its.there)

module _ (core core₂ kept : CoreTasks) (place place₂ : ℕ → ℕ) (agree : (j : ℕ) → j < kept.size → place j ≡ place₂ j)
    (selected : Selected core kept place) (selected₂ : Selected core₂ kept place₂) where
  pub same_selected_same_core : SameCore core core₂
  same_selected_same_core = record {
    same_ticks = λ i. go i (eq-zero-or-pos (ticks_of core i)) (eq-zero-or-pos (ticks_of core₂ i));
    same_period = λ i some. (found core core₂ kept place place₂ agree selected selected₂ i some).period;
    same_window = λ i some. (found core core₂ kept place place₂ agree selected selected₂ i some).window;
  }
    where
      go : (i : ℕ) → (ticks_of core i ≡ 0) ⊎ (0 < ticks_of core i) → (ticks_of core₂ i ≡ 0) ⊎ (0 < ticks_of core₂ i) → ticks_of core i ≡ ticks_of core₂ i
      go i (inr some) other = ticks_of_found core core₂ kept place place₂ agree selected selected₂ i some
      go i (inl none) (inl none₂) = none ∙ sym none₂
      go i (inl none) (inr some₂) =
          sym (ticks_of_found core₂ core kept place₂ place (λ j l. sym (agree j l)) selected₂ selected i some₂)
