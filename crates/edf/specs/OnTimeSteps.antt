-- Where the demand condition holds, earliest deadline first is on time at tick 0 and stays so with every run and release.
use Prim.Native.Nat.{ℕ, suc, ◌+◌, ◌-◌, ◌*◌, ◌/◌, ◌%◌, ◌≤◌, ◌<◌}
use Rattle.std.specs.Prelude.{Bool, ◌≡◌, ◌⊎◌}
use Rattle.std.proofs.Math.Bool.{true, false}
use Rattle.std.proofs.Math.Path.{refl}
use Rattle.std.proofs.Common.{inl, inr, le_refl, lt_of_not-le, lt_of_lt_of_le, eq-zero-or-pos, mul-suc, arith}
use Rattle.std.proofs.Math.Nat.{le_of_suc-le, sub-zero, zero-div, mul-le-mul_left, lt-div-mul-add}
use Rattle.std.proofs.Math.Dec.{eqb}
use borrow.Author.Tests.{eqb-true, eqb-false}
use Rattle.laws.specs.Below.{lt_or_le}
use Rattle.laws.specs.DivisionLaws.{suc_div_of_multiple, suc_div_of_other}
use Rattle.laws.specs.SumLaws.{sum_mono, sum_falls}
use Rattle.edf.specs.Demand.{WellFormed, Demand, demand_at, jobs_due, ticks_due}
use Rattle.dispatch.specs.DispatchLaws.{after_release-at_release, after_release-between, after_run-le, after_run-self}
use Rattle.dispatch.specs.Earliest.{Choice}
use Rattle.edf.specs.JobsDueLaws.{period_above_0, counted_of_due, jobs_due-mono, jobs_due-later}
use Rattle.edf.specs.OnTime.{left_by, later_jobs, owed, ahead, OnTime, left_by-due, left_by-later, left_by-le, owed_mono}
use Rattle.edf.specs.OnTime.{on_time_owing_no_more, on_time_with_less_left}
use Rattle.dispatch.specs.Rows.{CoreTasks, due_at, after_release, after_run}

module _ (core : CoreTasks) (wf : WellFormed core) where
  -- the jobs released after tick t and due by b are no more than those due as many ticks after tick 0
  later_jobs-le : (t b i : ℕ) → i < core.size → suc t ≤ b → later_jobs core t b i ≤ jobs_due core i (b - suc t)
  unfolding later_jobs
  later_jobs-le t b i l h =
      let next = suc (t / core.period i) in
      let b₂ = b - suc t + next * core.period i in
      let no_later : b ≤ b₂ = omega (arith, lt-div-mul-add {a = t} (period_above_0 wf i l)) in
      omega (arith, jobs_due-mono core wf i l b b₂ no_later, jobs_due-later core wf i l (b - suc t) next)

  -- a job that is entered is no longer counted among the later ones
  entered_job : (j b i left : ℕ) → i < core.size → left ≤ core.ticks i →
      left_by b (j * core.period i + core.window i) left + core.ticks i * (jobs_due core i b - suc j)
      ≤ core.ticks i * (jobs_due core i b - j)
  entered_job j b i left l full = go (lt_or_le j (jobs_due core i b))
    where
      due : ℕ
      due = j * core.period i + core.window i

      go : (j < jobs_due core i b) ⊎ (jobs_due core i b ≤ j) →
          left_by b due left + core.ticks i * (jobs_due core i b - suc j) ≤ core.ticks i * (jobs_due core i b - j)
      go (inl counted) =
          let one_more : jobs_due core i b - j ≡ suc (jobs_due core i b - suc j) = omega arith in
          rw (one_more, mul-suc) (omega (arith, left_by-le b due left))
      go (inr not_counted) =
          let not_due : b < due = lt_of_not-le (λ h. omega (arith, counted_of_due core wf i l j b h)) in
          let fewer : jobs_due core i b - suc j ≤ jobs_due core i b - j = omega arith in
          omega (arith, left_by-later b due left not_due, mul-le-mul_left (core.ticks i) fewer)

  release_owes_no_more : (t b i : ℕ) (left : ℕ → ℕ) → i < core.size →
      owed core (suc t) (λ k. after_release core (suc t) k (left k)) b i ≤ owed core t left b i
  unfolding owed later_jobs due_at
  release_owes_no_more t b i left l = go (eqb (suc t % core.period i) 0) refl
    where
      go : (c : Bool) → eqb (suc t % core.period i) 0 ≡ c →
          owed core (suc t) (λ k. after_release core (suc t) k (left k)) b i ≤ owed core t left b i
      go true e =
          let release : suc t % core.period i ≡ 0 = eqb-true (suc t % core.period i) 0 e in
          rw (
            after_release-at_release core (suc t) i (left i) release,
            suc_div_of_multiple t (core.period i) (period_above_0 wf i l) release,
          )
          (omega (arith, entered_job (suc (t / core.period i)) b i (core.ticks i) l (le_refl (core.ticks i))))
      go false e =
          let between = eqb-false (suc t % core.period i) 0 e in
          rw (
            after_release-between core (suc t) i (left i) between,
            suc_div_of_other t (core.period i) (period_above_0 wf i l) between,
          )
          (le_refl (owed core t left b i))

  pub on_time_release : (t : ℕ) (left : ℕ → ℕ) → OnTime core t (suc t) left →
      OnTime core (suc t) (suc t) (λ i. after_release core (suc t) i (left i))
  on_time_release t left =
      on_time_owing_no_more
      core
      t
      (suc t)
      (suc t)
      left
      (λ i. after_release core (suc t) i (left i))
      (λ b i l. release_owes_no_more t b i left l)

-- what a run leaves is not due by b if nothing was
nothing_left_by : (b due number i ready : ℕ) → (0 < ready → b < due) → left_by b due (after_run number i ready) ≡ 0
nothing_left_by b due number i ready later = go (eq-zero-or-pos ready)
  where
    go : (ready ≡ 0) ⊎ (0 < ready) → left_by b due (after_run number i ready) ≡ 0
    go (inl none) = omega (arith, left_by-le b due (after_run number i ready), after_run-le number i ready)
    go (inr some) = left_by-later b due (after_run number i ready) (later some)

module _ (core : CoreTasks) (wf : WellFormed core) (demand : Demand core) where
  pub on_time_start : (ready : ℕ → ℕ) → ((i : ℕ) → i < core.size → ready i ≤ core.ticks i) → OnTime core 0 0 ready
  unfolding owed later_jobs due_at demand_at
  on_time_start ready full =
      record {
        room_by = λ b h.
            omega (arith, demand.met_by b, sum_mono (owed core 0 ready b) (ticks_due core b) core.size (first_jobs b));
      }
    where
      first_jobs : (b i : ℕ) → i < core.size → owed core 0 ready b i ≤ ticks_due core b i
      first_jobs b i l = rw zero-div (rw sub-zero at (entered_job core wf 0 b i (ready i) l (full i l)))

  -- where nothing that is left is due by b, the demand condition is enough
  room_for_later_jobs : (t b : ℕ) (left : ℕ → ℕ) → suc t ≤ b →
      ((i : ℕ) → i < core.size → left_by b (due_at core t i) (left i) ≡ 0) → ahead core t left b + suc t ≤ b
  unfolding owed demand_at
  room_for_later_jobs t b left h none =
      let each : (i : ℕ) → i < core.size → owed core t left b i ≤ ticks_due core (b - suc t) i =
      λ i l. omega (arith, none i l, mul-le-mul_left (core.ticks i) (later_jobs-le core wf t b i l h))
      in
      omega (arith, sum_mono (owed core t left b) (ticks_due core (b - suc t)) core.size each, demand.met_by (b - suc t))

  -- the job that runs is due by b, or nothing is
  on_time_exact_run : (t number : ℕ) (ready : ℕ → ℕ) → Choice (due_at core t) ready core.size number → OnTime core t t ready →
      OnTime core t (suc t) (λ i. after_run number i (ready i))
  unfolding owed
  on_time_exact_run t number ready (Choice.idle all) on_time =
      let none : (b i : ℕ) → i < core.size → left_by b (due_at core t i) (after_run 0 i (ready i)) ≡ 0 =
      λ b i l. nothing_left_by b (due_at core t i) 0 i (ready i) (λ some. absurd (omega (arith, all i l)))
      in
      record { room_by = λ b h. room_for_later_jobs t b (λ i. after_run 0 i (ready i)) h (none b) }
  on_time_exact_run t number ready (Choice.runs k l has first lower) on_time =
      record { room_by = λ b h. go b h (lt_or_le b (due_at core t k)) }
    where
      after : ℕ → ℕ
      after i = after_run (suc k) i (ready i)

      falls : (b : ℕ) → due_at core t k ≤ b → owed core t after b k < owed core t ready b k
      falls b due =
          rw (left_by-due b (due_at core t k) (after k) due, left_by-due b (due_at core t k) (ready k) due, after_run-self k (ready k))
          (omega arith)

      go : (b : ℕ) → suc t ≤ b → (b < due_at core t k) ⊎ (due_at core t k ≤ b) → ahead core t after b + suc t ≤ b
      go b h (inl later) =
          let none : (i : ℕ) → i < core.size → left_by b (due_at core t i) (after i) ≡ 0 =
          λ i m. nothing_left_by b (due_at core t i) (suc k) i (ready i) (λ some. lt_of_lt_of_le later (first i m some))
          in
          room_for_later_jobs t b after h none
      go b h (inr due) =
          let no_more : (i : ℕ) → i < core.size → owed core t after b i ≤ owed core t ready b i =
          λ i m. owed_mono core t b i ready after (after_run-le (suc k) i (ready i))
          in
          omega (
            arith,
            sum_falls (owed core t after b) (owed core t ready b) core.size k no_more l (falls b due),
            on_time.room_by b (le_of_suc-le h),
          )

  -- the run of tick t, also where a job has less left after it than the run leaves: it has ended early
  pub on_time_run : (t number : ℕ) (ready left : ℕ → ℕ) → Choice (due_at core t) ready core.size number →
      ((i : ℕ) → i < core.size → left i ≤ after_run number i (ready i)) → OnTime core t t ready → OnTime core t (suc t) left
  on_time_run t number ready left choice less on_time =
      on_time_with_less_left core t (suc t) (λ i. after_run number i (ready i)) left less (on_time_exact_run t number ready choice on_time)
