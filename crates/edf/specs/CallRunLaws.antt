-- Calls of the dispatcher from a fresh start, task by task, with tick n for call n: after whole spans jobs are released and due as
-- before, so that what follows does not see the wrap.
use Prim.Native.Nat.{ℕ, zero, suc, ◌+◌, ◌*◌, ◌/◌, ◌%◌, ◌≤◌, ◌<◌}
use Rattle.std.specs.Prelude.{Bool, true, false, cond, ◌≡◌, refl, eqb, get_or}
use Rattle.std.proofs.Math.Path.{sym, ap}
use Rattle.std.proofs.Common.{◌∙◌, div-add-mod', mod-eq_of_lt, mod-lt, arith, eqb-true}
use Rattle.std.proofs.Math.Nat.{mod_self, suc-mod, zero-mod}
use Rattle.std.proofs.Math.ListN.{get_or-replicate}
use Rattle.std.proofs.lemmas.Bool.{eqb-false}
use Rattle.dispatch.specs.Calls.{after_end, ended_early, wrapped, call, called, answered}
use Rattle.dispatch.specs.CallLaws.{ready_for, call_answers_choice, call_leaves}
use Rattle.dispatch.specs.Earliest.{Choice, choice_moved}
use Rattle.dispatch.specs.Rows.{CoreTasks, due_at, after_release, after_run, step}
use Rattle.edf.specs.Demand.{WholePeriods}
use Rattle.edf.specs.WholeSpanLaws.{release_repeats, due_repeats}

-- the ticks left of task i before call n, ..
unfoldable pub left_before : CoreTasks → ℕ → (ℕ → Bool) → ℕ → ℕ → ℕ
left_before core span reports n i = get_or (called core span reports n).left i 0

-- .. once an early end is applied, ..
unfoldable pub left_over : CoreTasks → ℕ → (ℕ → Bool) → ℕ → ℕ → ℕ
left_over core span reports n i = after_end (reports n) (called core span reports n).last i (left_before core span reports n i)

-- .. and once the jobs of tick n are released
unfoldable pub ready_at_call : CoreTasks → ℕ → (ℕ → Bool) → ℕ → ℕ → ℕ
ready_at_call core span reports n i = after_release core n i (left_over core span reports n i)

wraps : (t span : ℕ) → 0 < span → t ≤ span → cond (eqb t span) 0 t ≡ t % span
wraps t span above at_most = go (eqb t span) refl
  where
    go : (at_end : Bool) → eqb t span ≡ at_end → cond at_end 0 t ≡ t % span
    go true e = rw (eqb-true t span e) (sym (mod_self span))
    go false e = sym (mod-eq_of_lt (omega (arith, eqb-false t span e)))

module _ (core : CoreTasks) (span : ℕ) (reports : ℕ → Bool) where
  pub nothing_left_before_first : (i : ℕ) → i < core.size → left_before core span reports 0 i ≡ 0
  unfolding left_before called
  nothing_left_before_first i l = get_or-replicate core.size i 0 0 l

  module _ (whole : WholePeriods core span) where
    tick_of_call : (n : ℕ) → (called core span reports n).tick ≡ n % span
    unfolding called call wrapped step ended_early
    tick_of_call zero = sym (zero-mod span)
    tick_of_call (suc n) =
        rw (tick_of_call n, suc-mod n span) (wraps (suc (n % span)) span whole.span_above_0 (mod-lt n whole.span_above_0))

    by_tick : (n : ℕ) → n / span * span + n % span ≡ n
    by_tick n = div-add-mod' n span

    same_ready : (n i : ℕ) → i < core.size → ready_for core (reports n) (called core span reports n) i ≡ ready_at_call core span reports n i
    unfolding ready_for ready_at_call left_over left_before
    same_ready n i l =
        let left = left_over core span reports n i in
        ap (λ (t : ℕ). after_release core t i left) (tick_of_call n)
        ∙ sym (release_repeats core span whole (n / span) (n % span) i l left)
        ∙ ap (λ (t : ℕ). after_release core t i left) (by_tick n)

    due_moved : (n i : ℕ) → i < core.size → due_at core n i ≡ due_at core (called core span reports n).tick i + n / span * span
    due_moved n i l =
        ap (λ (t : ℕ). due_at core t i) (sym (by_tick n))
        ∙ due_repeats core span whole (n / span) (n % span) i l
        ∙ ap (λ (t : ℕ). due_at core t i + n / span * span) (sym (tick_of_call n))

    pub answer_is_choice : (n : ℕ) → Choice (due_at core n) (ready_at_call core span reports n) core.size (answered core span reports n)
    unfolding called
    answer_is_choice n =
        choice_moved (n / span * span) (same_ready n) (due_moved n) (call_answers_choice core span (reports n) (called core span reports n))

    pub left_after_call : (n i : ℕ) → i < core.size →
        left_before core span reports (suc n) i ≡ after_run (answered core span reports n) i (ready_at_call core span reports n i)
    unfolding called left_before
    left_after_call n i l =
        call_leaves core span (reports n) (called core span reports n) i l ∙ ap (after_run (answered core span reports n) i) (same_ready n i l)
