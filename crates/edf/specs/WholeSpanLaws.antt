-- Every period divides the span, so that after whole spans a core's jobs are released, are due and run as before.
use Prim.Native.Nat.{ℕ, zero, suc, ◌+◌, ◌*◌, ◌%◌, ◌<◌, ◌∣◌}
use Rattle.std.specs.Prelude.{◌≡◌}
use Rattle.std.proofs.Math.Path.{sym, ap}
use Rattle.std.proofs.Common.{ap₂, ◌∙◌, add-suc, zero-add, arith}
use Rattle.std.proofs.Math.Nat.{add-mod, div-add-mod', dvd-mul_left_of_dvd, mod-eq-zero_of_dvd, mod-mod, zero-mod}
use Rattle.dispatch.specs.DispatchLaws.{left_at, ready_at, slot_is_choice, left_after_run, after_release-at_release}
use Rattle.dispatch.specs.Earliest.{choice_moved, choice_unique}
use Rattle.dispatch.specs.Rows.{CoreTasks, due_at, after_release, after_run, slot_of}
use Rattle.edf.specs.Demand.{WholePeriods}

module _ (core : CoreTasks) (span : ℕ) (whole : WholePeriods core span) where
  module _ (m x i : ℕ) (l : i < core.size) where
    same_phase : (m * span + x) % core.period i ≡ x % core.period i
    same_phase =
        let p = core.period i in
        let divides : p ∣ m * span = dvd-mul_left_of_dvd p (whole.period_divides i l) m in
        rw (add-mod (m * span) x p, mod-eq-zero_of_dvd p divides, zero-add (x % p)) (mod-mod x p)

    pub release_repeats : (left : ℕ) → after_release core (m * span + x) i left ≡ after_release core x i left
    unfolding after_release
    release_repeats left = rw same_phase

    pub due_repeats : due_at core (m * span + x) i ≡ due_at core x i + m * span
    unfolding due_at
    due_repeats = omega (arith, same_phase, div-add-mod' (m * span + x) (core.period i), div-add-mod' x (core.period i))

  module _ (m : ℕ) where
    -- both have the same left once the jobs are released
    abbrev SameReady : ℕ → Type 0
    SameReady x = (i : ℕ) → i < core.size → ready_at core x i ≡ ready_at core (m * span + x) i

    same_slot : (x : ℕ) → SameReady x → slot_of core (m * span + x) ≡ slot_of core x
    same_slot x ready =
        choice_unique (slot_is_choice core (m * span + x)) (choice_moved (m * span) ready (due_repeats m x) (slot_is_choice core x))

    same_left : (x : ℕ) → SameReady x → (i : ℕ) → i < core.size → left_at core (suc x) i ≡ left_at core (suc (m * span + x)) i
    same_left x ready i l =
        left_after_run core x i l
        ∙ ap₂ (λ (slot left : ℕ). after_run slot i left) (sym (same_slot x ready)) (ready i l)
        ∙ sym (left_after_run core (m * span + x) i l)

    same_ready : (x : ℕ) → SameReady x
    unfolding ready_at
    same_ready zero i l =
        after_release-at_release core 0 i (left_at core 0 i) (zero-mod (core.period i))
        ∙ sym (after_release-at_release core (m * span + 0) i _ (same_phase m 0 i l ∙ zero-mod (core.period i)))
    same_ready (suc x) i l =
        ap (after_release core (suc x) i) (same_left x (same_ready x) i l)
        ∙ sym (release_repeats m (suc x) i l (left_at core (suc (m * span + x)) i))
        ∙ ap (λ (t : ℕ). after_release core (m * span + suc x) i (left_at core t i)) (sym (add-suc (m * span) x))

    -- whatever is left at the end of a span is overwritten by the releases of the next
    pub slot_repeats : (x : ℕ) → slot_of core (m * span + x) ≡ slot_of core x
    slot_repeats x = same_slot x (same_ready x)
