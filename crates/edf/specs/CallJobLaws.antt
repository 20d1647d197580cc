-- Whatever is reported, every job is finished by its deadline, has no more than its ticks, and runs in its window only.
use Prim.Native.Nat.{ℕ, zero, suc, ◌+◌, ◌*◌, ◌≤◌, ◌<◌}
use Rattle.std.specs.Prelude.{Bool, true, cond, ◌⊎◌, ◌≡◌, refl}
use Rattle.std.proofs.Common.{inl, inr, ◌∙◌, add-suc, add-zero, arith}
use Rattle.std.proofs.Math.Path.{ap, ap₂}
use Rattle.std.proofs.Math.Nat.{le_of_eq, le_of_suc-le, mul-mod_left, zero-mod}
use Rattle.std.proofs.Math.Arith.{digits_div, digits_mod}
use Rattle.std.proofs.Math.Dec.{eqb}
use Rattle.laws.specs.Below.{lt_or_le}
use Rattle.laws.specs.Search.{count}
use Rattle.dispatch.specs.CallLaws.{after_end-cases, after_end-le, after_end-reported}
use Rattle.dispatch.specs.Calls.{after_end, called, answered}
use Rattle.dispatch.specs.DispatchLaws.{after_release-at_release, after_release-between}
use Rattle.dispatch.specs.Earliest.{chosen_has_left}
use Rattle.dispatch.specs.Rows.{CoreTasks, due_at}
use Rattle.edf.specs.CallRunLaws.{left_before, left_over, ready_at_call, answer_is_choice, left_after_call}
use Rattle.edf.specs.Demand.{WellFormed, WholePeriods, Demand, NoSlotAfterDue, slots_of_job}
use Rattle.edf.specs.EdfLaws.{run_takes_one}
use Rattle.edf.specs.FinishedJobs.{Finished}
use Rattle.edf.specs.OnTime.{OnTime, done_when_due, on_time_with_less_left}
use Rattle.edf.specs.OnTimeSteps.{on_time_start, on_time_run, on_time_release}

module _ (core : CoreTasks) (span : ℕ) (reports : ℕ → Bool) (whole : WholePeriods core span) where
  running_has_left : (n i : ℕ) → answered core span reports n ≡ suc i → 0 < ready_at_call core span reports n i
  running_has_left n i e = chosen_has_left i (answer_is_choice core span reports whole n) e

  run_accounts : (n i : ℕ) → i < core.size →
      cond (eqb (answered core span reports n) (suc i)) 1 0 + left_before core span reports (suc n) i ≡ ready_at_call core span reports n i
  run_accounts n i l =
      rw (left_after_call core span reports whole n i l)
      (run_takes_one (answered core span reports n) i (ready_at_call core span reports n i) (running_has_left n i))

  over_le : (n i : ℕ) → left_over core span reports n i ≤ left_before core span reports n i
  unfolding left_over
  over_le n i = after_end-le (reports n) (called core span reports n).last i (left_before core span reports n i)

  module _ (i j : ℕ) (l : i < core.size) where
    -- the call x ticks after the job's release
    abbrev call_after : ℕ → ℕ
    call_after x = j * core.period i + x

    -- the ticks that the job was given in the first x calls
    abbrev given : ℕ → ℕ
    given x = count (λ k. eqb (answered core span reports (call_after k)) (suc i)) x

    ready_at_release : ready_at_call core span reports (call_after 0) i ≡ core.ticks i
    unfolding ready_at_call
    ready_at_release = after_release-at_release core (call_after 0) i _ (rw (add-zero (j * core.period i)) (mul-mod_left j (core.period i)))

    ready_between : (x : ℕ) → suc x < core.period i →
        ready_at_call core span reports (call_after (suc x)) i ≡ left_over core span reports (suc (call_after x)) i
    unfolding ready_at_call
    ready_between x h =
        after_release-between core (call_after (suc x)) i _ (λ e. omega (arith, digits_mod j h))
        ∙ ap (λ (n : ℕ). left_over core span reports n i) (add-suc (j * core.period i) x)

    -- before the run x ticks after its release the job was not reported ended, and what it was given and has left make its ticks; or
    -- it was, and has nothing left
    data Account (x : ℕ) : Type 0 where
      goes_on : given x + ready_at_call core span reports (call_after x) i ≡ core.ticks i → Account x
      was_ended : (y : ℕ) → suc y ≤ x → answered core span reports (call_after y) ≡ suc i → reports (suc (call_after y)) ≡ true →
          ready_at_call core span reports (call_after x) i ≡ 0 → given x ≤ core.ticks i → Account x

    goes_on_or_ends : (x : ℕ) → suc x < core.period i →
        given (suc x) + left_before core span reports (suc (call_after x)) i ≡ core.ticks i → Account (suc x)
    unfolding left_over called
    goes_on_or_ends x h so_far =
        go (after_end-cases (reports n) (answered core span reports (call_after x)) i (left_before core span reports n i))
      where
        n : ℕ
        n = suc (call_after x)

        after : ℕ
        after = after_end (reports n) (answered core span reports (call_after x)) i (left_before core span reports n i)

        go : ((reports n ≡ true) × (answered core span reports (call_after x) ≡ suc i) × (after ≡ 0)) ⊎ (after ≡ left_before core span reports n i) →
            Account (suc x)
        go (inl ends) = was_ended x (omega arith) ends.1 ends.0 (ready_between x h ∙ ends.2) (omega arith)
        go (inr same) = goes_on (omega (arith, ready_between x h, same))

    next : (x : ℕ) → suc x < core.period i → Account x → Account (suc x)
    unfolding count
    next x h (goes_on account) = goes_on_or_ends x h (omega (arith, run_accounts (call_after x) i l))
    next x h (was_ended y before ran reported none no_more) =
        was_ended y (omega arith) ran reported
        (omega (arith, ready_between x h, over_le (suc (call_after x)) i, run_accounts (call_after x) i l))
        (omega (arith, run_accounts (call_after x) i l))

    accounted : (x : ℕ) → x < core.period i → Account x
    unfolding count
    accounted zero h = goes_on (omega (arith, ready_at_release))
    accounted (suc x) h = next x h (accounted x (le_of_suc-le h))

    -- a job that was reported ended has nothing left until the next of its task is released, ..
    nothing_left_after_report : (x : ℕ) → answered core span reports (call_after x) ≡ suc i → reports (suc (call_after x)) ≡ true →
        (y : ℕ) → x < y → y < core.period i → ready_at_call core span reports (call_after y) i ≡ 0
    unfolding left_over called
    nothing_left_after_report x ran reported zero after h = absurd (omega arith)
    nothing_left_after_report x ran reported (suc y) after h =
        go (λ (later : x < y). nothing_left_after_report x ran reported y later (le_of_suc-le h)) (lt_or_le x y)
      where
        in_the_call : suc x < core.period i → ready_at_call core span reports (call_after (suc x)) i ≡ 0
        in_the_call inside =
            ready_between x inside
            ∙ ap₂ (λ (b : Bool) (last : ℕ). after_end b last i (left_before core span reports (suc (call_after x)) i)) reported ran
            ∙ after_end-reported i _

        go : (x < y → ready_at_call core span reports (call_after y) i ≡ 0) → (x < y) ⊎ (y ≤ x) →
            ready_at_call core span reports (call_after (suc y)) i ≡ 0
        go before (inl later) =
            omega (arith, ready_between y h, over_le (suc (call_after y)) i, run_accounts (call_after y) i l, before later)
        go before (inr not_later) = let here : y ≡ x = omega arith in rw here (in_the_call (rw here at h))

    -- .. and so does not run
    pub runs_no_more : (x : ℕ) → answered core span reports (call_after x) ≡ suc i → reports (suc (call_after x)) ≡ true →
        (y : ℕ) → x < y → y < core.period i → answered core span reports (call_after y) ≡ suc i → ⊥
    runs_no_more x ran reported y after h runs =
        omega (arith, nothing_left_after_report x ran reported y after h, running_has_left (call_after y) i runs)

    -- a job that was given all its ticks has nothing left
    pub nothing_left_when_full : (x : ℕ) → x < core.period i → answered core span reports (call_after x) ≡ suc i → given (suc x) ≡ core.ticks i →
        left_before core span reports (suc (call_after x)) i ≡ 0
    unfolding count
    nothing_left_when_full x h runs full = go (accounted x h)
      where
        go : Account x → left_before core span reports (suc (call_after x)) i ≡ 0
        go (goes_on account) = omega (arith, run_accounts (call_after x) i l)
        go (was_ended y before ran reported none no_more) = absurd (omega (arith, running_has_left (call_after x) i runs))

  module _ (wf : WellFormed core) (demand : Demand core) where
    left_on_time : (n : ℕ) → OnTime core n n (ready_at_call core span reports n) → OnTime core n (suc n) (left_before core span reports (suc n))
    left_on_time n on_time =
        on_time_run core wf demand n
        (answered core span reports n)
        (ready_at_call core span reports n)
        (left_before core span reports (suc n))
        (answer_is_choice core span reports whole n)
        (λ i l. le_of_eq (left_after_call core span reports whole n i l))
        on_time

    ready_on_time : (n : ℕ) → OnTime core n n (ready_at_call core span reports n)
    unfolding ready_at_call
    ready_on_time zero =
        on_time_start core wf demand (ready_at_call core span reports 0)
        (λ i l. le_of_eq (after_release-at_release core 0 i (left_over core span reports 0 i) (zero-mod (core.period i))))
    ready_on_time (suc n) =
        on_time_release core wf n (left_over core span reports (suc n))
        (on_time_with_less_left core n (suc n) (left_before core span reports (suc n)) (left_over core span reports (suc n)) (λ i l. over_le (suc n) i)
        (left_on_time n (ready_on_time n)))

    module _ (i j : ℕ) (l : i < core.size) where
      -- after the last tick of its window a job has nothing left
      done_by_deadline : (x : ℕ) → core.window i ≡ suc x → left_before core span reports (suc (j * core.period i + x)) i ≡ 0
      unfolding due_at
      done_by_deadline x e =
          let last = j * core.period i + x in
          let inside : x < core.period i = omega (arith, wf.window_within_period i l) in
          let due : due_at core last i ≤ suc last = rw (digits_div j inside) (omega arith) in
          done_when_due core last (suc last) i (left_before core span reports (suc last)) (left_on_time last (ready_on_time last)) l due

      -- the account of the last tick of the window
      at_deadline : (P : ℕ → Type 0) → ((x : ℕ) → core.window i ≡ suc x → Account i j l x → P (suc x)) → P (core.window i)
      at_deadline P holds = go (core.window i) refl
        where
          go : (d : ℕ) → core.window i ≡ d → P d
          go zero e = absurd (omega (arith, wf.window_above_0 i l))
          go (suc x) e = holds x e (accounted i j l x (omega (arith, wf.window_within_period i l)))

      pub job_finished : Finished core (answered core span reports) reports i j
      unfolding count
      job_finished = at_deadline (λ d. Finished core (answered core span reports) reports i j) go
        where
          go : (x : ℕ) → core.window i ≡ suc x → Account i j l x → Finished core (answered core span reports) reports i j
          go x e (goes_on account) =
              Finished.ran_in_full (rw e (omega (arith, run_accounts (j * core.period i + x) i l, done_by_deadline x e)))
          go x e (was_ended y before ran reported none no_more) = Finished.ended_by_report y (omega arith) ran reported

      pub no_more_than_its_ticks : slots_of_job (answered core span reports) core i j ≤ core.ticks i
      unfolding count
      no_more_than_its_ticks = at_deadline (λ d. count (λ k. eqb (answered core span reports (j * core.period i + k)) (suc i)) d ≤ core.ticks i) go
        where
          go : (x : ℕ) → core.window i ≡ suc x → Account i j l x →
              count (λ k. eqb (answered core span reports (j * core.period i + k)) (suc i)) (suc x) ≤ core.ticks i
          go x e (goes_on account) = omega (arith, run_accounts (j * core.period i + x) i l)
          go x e (was_ended y before ran reported none no_more) = omega (arith, run_accounts (j * core.period i + x) i l)

      pub no_tick_after_due : NoSlotAfterDue (answered core span reports) core i j
      unfolding due_at
      no_tick_after_due x due h runs =
          let n = j * core.period i + x in
          let past : due_at core n i ≤ n = rw (digits_div j h) (omega arith) in
          omega (arith, done_when_due core n n i (ready_at_call core span reports n) (ready_on_time n) l past, running_has_left n i runs)
