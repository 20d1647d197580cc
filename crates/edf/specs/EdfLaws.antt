-- Earliest deadline first: every job gets its ticks in its window and none after it.
use Prim.Native.Nat.{ℕ, zero, suc, ◌+◌, ◌*◌, ◌≤◌, ◌<◌}
use Rattle.std.specs.Prelude.{Bool, true, false, cond, ◌≡◌, ◌⊎◌, eqb}
use Rattle.std.proofs.Math.Path.{refl, ap}
use Rattle.std.proofs.Common.{sym, ◌∙◌, inl, inr, le_of_eq, add-zero, add-suc, arith, eqb-true}
use Rattle.std.proofs.Math.Nat.{le_of_suc-le, mul-mod_left}
use Rattle.std.proofs.Math.Arith.{digits_div, digits_mod}
use Rattle.std.proofs.lemmas.Bool.{eqb-false}
use Rattle.laws.specs.CountLaws.{count_mono}
use Rattle.laws.specs.Search.{count}
use Rattle.edf.specs.Demand.{WellFormed, Demand, NamesTask, NoSlotAfterDue, slots_of_job}
use Rattle.dispatch.specs.DispatchLaws.{left_at, ready_at, slot_is_choice, left_after_run, ready_le_ticks}
use Rattle.dispatch.specs.DispatchLaws.{after_release-at_release, after_release-between, after_run-self, after_run-other}
use Rattle.dispatch.specs.Earliest.{Choice, chosen_has_left}
use Rattle.edf.specs.OnTime.{OnTime, done_when_due}
use Rattle.edf.specs.OnTimeSteps.{on_time_start, on_time_run, on_time_release}
use Rattle.dispatch.specs.Rows.{CoreTasks, due_at, after_run, slot_of}

-- the slots of job j of task i among the first x ticks from its release
abbrev pub slots_so_far : CoreTasks → ℕ → ℕ → ℕ → ℕ
slots_so_far core i j x = count (λ k. eqb (slot_of core (j * core.period i + k)) (suc i)) x

-- a tick with the task's number takes one of its ticks left
pub run_takes_one : (number i left : ℕ) → (number ≡ suc i → 0 < left) → cond (eqb number (suc i)) 1 0 + after_run number i left ≡ left
run_takes_one number i left has = go (eqb number (suc i)) refl
  where
    go : (c : Bool) → eqb number (suc i) ≡ c → cond c 1 0 + after_run number i left ≡ left
    go true e =
        let runs : number ≡ suc i = eqb-true number (suc i) e in rw (runs, after_run-self i left) (omega (arith, has runs))
    go false e = rw (after_run-other number i left (λ same. eqb-false number (suc i) e (sym same))) (omega arith)

module _ (core : CoreTasks) where
  running_has_left : (t i : ℕ) → slot_of core t ≡ suc i → 0 < ready_at core t i
  running_has_left t i e = chosen_has_left i (slot_is_choice core t) e

  pub slot_names_task : (t : ℕ) → (slot_of core t ≡ 0) ⊎ NamesTask core (slot_of core t)
  slot_names_task t = go (slot_of core t) (slot_is_choice core t)
    where
      go : (slot : ℕ) → Choice (due_at core t) (ready_at core t) core.size slot → (slot ≡ 0) ⊎ NamesTask core slot
      go slot (Choice.idle all) = inl refl
      go slot (Choice.runs k l has first lower) =
          inr (record { task = k; is_task = l; its_number = refl; has_ticks = omega (arith, ready_le_ticks core t k l) })

  run_accounts : (t i : ℕ) → i < core.size → cond (eqb (slot_of core t) (suc i)) 1 0 + left_at core (suc t) i ≡ ready_at core t i
  run_accounts t i l = rw (left_after_run core t i l) (run_takes_one (slot_of core t) i (ready_at core t i) (running_has_left t i))

  module _ (i j : ℕ) (l : i < core.size) where
    ready_at_release : ready_at core (j * core.period i + 0) i ≡ core.ticks i
    unfolding ready_at
    ready_at_release =
        after_release-at_release core (j * core.period i + 0) i _ (rw (add-zero (j * core.period i)) (mul-mod_left j (core.period i)))

    ready_between_releases : (x : ℕ) → suc x < core.period i →
        ready_at core (j * core.period i + suc x) i ≡ left_at core (suc (j * core.period i + x)) i
    unfolding ready_at
    ready_between_releases x h =
        after_release-between core (j * core.period i + suc x) i _ (λ e. omega (arith, digits_mod j h))
        ∙ ap (λ (t : ℕ). left_at core t i) (add-suc (j * core.period i) x)

    run_keeps_account : (x : ℕ) → slots_so_far core i j x + ready_at core (j * core.period i + x) i ≡ core.ticks i →
        slots_so_far core i j (suc x) + left_at core (suc (j * core.period i + x)) i ≡ core.ticks i
    unfolding count
    run_keeps_account x before = omega (arith, run_accounts (j * core.period i + x) i l)

    -- what job j got and what it has left make its ticks, until the next release
    pub accounted : (x : ℕ) → x < core.period i → slots_so_far core i j x + ready_at core (j * core.period i + x) i ≡ core.ticks i
    unfolding count
    accounted zero h = omega (arith, ready_at_release)
    accounted (suc x) h = rw (ready_between_releases x h) (run_keeps_account x (accounted x (le_of_suc-le h)))

module _ (core : CoreTasks) (wf : WellFormed core) (demand : Demand core) where
  left_on_time : (t : ℕ) → OnTime core t t (ready_at core t) → OnTime core t (suc t) (left_at core (suc t))
  left_on_time t on_time =
      on_time_run
      core
      wf
      demand
      t
      (slot_of core t)
      (ready_at core t)
      (left_at core (suc t))
      (slot_is_choice core t)
      (λ i l. le_of_eq (left_after_run core t i l))
      on_time

  ready_on_time : (t : ℕ) → OnTime core t t (ready_at core t)
  unfolding ready_at
  ready_on_time zero = on_time_start core wf demand (ready_at core 0) (λ i l. ready_le_ticks core 0 i l)
  ready_on_time (suc t) = on_time_release core wf t (left_at core (suc t)) (left_on_time t (ready_on_time t))

  module _ (i j : ℕ) (l : i < core.size) where
    pub job_served : slots_of_job (slot_of core) core i j ≡ core.ticks i
    unfolding due_at
    job_served = go (core.window i) refl
      where
        go : (d : ℕ) → core.window i ≡ d → slots_so_far core i j d ≡ core.ticks i
        go zero e = absurd (omega (arith, wf.window_above_0 i l))
        go (suc x) e =
            let last = j * core.period i + x in
            let inside : x < core.period i = omega (arith, wf.window_within_period i l) in
            let due : due_at core last i ≤ suc last = rw (digits_div j inside) (omega arith) in
            let none_left = done_when_due core last (suc last) i (left_at core (suc last)) (left_on_time last (ready_on_time last)) l due in
            omega (arith, run_keeps_account core i j l x (accounted core i j l x inside), none_left)

    pub no_slot_after_due : NoSlotAfterDue (slot_of core) core i j
    no_slot_after_due x due h runs =
        omega (
          arith,
          job_served,
          accounted core i j l x h,
          count_mono (λ k. eqb (slot_of core (j * core.period i + k)) (suc i)) (core.window i) x due,
          running_has_left core (j * core.period i + x) i runs,
        )
