-- The rows of a table that passes the check, as their gaps need them: an awake core has a busy slot and as many as its load, a core
-- that is off has none.
use Rattle.refusals.specs.Refusals.{accepted}
use Rattle.std.specs.Prelude.{ℕ, zero, suc, ◌+◌, ◌-◌, ◌*◌, ◌/◌, ◌≤◌, ◌<◌, Bool, true, false, not, List, ◌≡◌, eqb}
use Rattle.std.proofs.Common.{⊎_elim, sym, ap, ◌∙◌, le-div_iff_mul-le, mod-eq_of_lt, mod-lt, mul-pos, mul-zero, zero-mul, arith, eq-eqb}
use Rattle.std.proofs.Math.Path.{refl}
use Rattle.laws.specs.CountLaws.{some_counted, count_of_others}
use Rattle.laws.specs.Search.{count}
use Rattle.laws.specs.SearchFacts.{count_same}
use Rattle.laws.specs.SumLaws.{term_le_sum}
use Rattle.laws.specs.Truth.{false_not_true}
use Rattle.checks.specs.Checks.{check}
use Rattle.drawings.specs.BusySlotLaws.{busy_slots_are_load}
use Rattle.drawings.specs.CheckTheorem.{check_accepts_exactly_drawings}
use Rattle.drawings.specs.Drawings.{Drawing}
use Rattle.drawings.specs.RepeatedTables.{shown_at}
use Rattle.drawings.specs.ServedRowLaws.{drawing_serves_cores}
use Rattle.drawings.specs.ServedRows.{OwedSlot}
use Rattle.gaps.specs.Gaps.{SomeBusy}
use Rattle.gaps.specs.GapSumLaws.{idle_slots}
use Rattle.gaps.specs.SleepLaws.{energy_without_sleep, no_energy_of_idle_row}
use Rattle.gaps.specs.Sleeping.{chosen_energy}
use Rattle.instance.specs.Node.{Problem, task_count, task_at, span}
use Rattle.instance.specs.Valid.{Valid}
use Rattle.plan_rules.specs.KeepsLaws.{kept_where_ticks}
use Rattle.plan_rules.specs.Quantities.{keeps, jobs, job_ticks, ticks, ticks_on, load_on, core_load, level_of}
use Rattle.prices.specs.IdleLaws.{idle_ticks_of_awake_core, no_idle_ticks_of_off_core, awake_core_keeps_task, off_core_keeps_none}
use Rattle.prices.specs.Prices.{is_awake, idle_ticks}
use Rattle.sleep.specs.CoreSleeps.{costs_of}
use Rattle.sleep.specs.RowLaws.{table_row_repeats}
use Rattle.sleep.specs.Rows.{busy_at}
use Rattle.tables.specs.Periods.{Periodic, valid_is_periodic, jobs_fill_span}
use Rattle.tables.specs.Tables.{slot_at}

ticks_above_zero : (start cycles speed : ℕ) → 0 < cycles → 0 < speed → 0 < ticks start cycles speed
unfolding ticks
ticks_above_zero start cycles speed some above =
    let one : 1 ≤ (cycles + (speed - 1)) / speed = (le-div_iff_mul-le above).1 (omega arith) in omega arith

jobs_above_zero : (p : Problem) → Periodic p → (i : ℕ) → i < task_count p → 0 < jobs p i
jobs_above_zero p periodic i h = go (jobs p i) (jobs_fill_span p periodic i h)
  where
    go : (n : ℕ) → n * (task_at p i).period ≡ span p → 0 < n
    go zero whole = absurd (omega (arith, periodic.span_positive, zero-mul (task_at p i).period))
    go (suc n) whole = omega arith

module _ (p : Problem) (valid : Valid p) (plan table : List ℕ) (passes : check p plan table ≡ accepted) (k : ℕ) (h : k < p.cores) where
  drawn : Drawing p plan table
  drawn = (check_accepts_exactly_drawings p (valid_is_periodic valid) plan table).0 passes

  busy_in_span : (t : ℕ) → t < span p → busy_at p table k t ≡ not (eqb (slot_at p table k t) 0)
  unfolding busy_at shown_at
  busy_in_span t l = rw (mod-eq_of_lt l) refl

  busy_for_load : count (busy_at p table k) (span p) ≡ core_load p plan k
  busy_for_load = count_same _ _ (span p) busy_in_span ∙ busy_slots_are_load p (valid_is_periodic valid) plan table drawn k h

  -- the span less the core's load
  pub idle_slots_are_rest : idle_slots (busy_at p table k) (span p) + core_load p plan k ≡ span p
  idle_slots_are_rest = omega (arith, busy_for_load, count_of_others (busy_at p table k) (span p))

  pub off_core_is_idle : is_awake p plan k ≡ false → (t : ℕ) → t < span p → busy_at p table k t ≡ false
  off_core_is_idle off t l =
      ⊎_elim
      (λ idle. busy_in_span t l ∙ rw (eq-eqb (slot_at p table k t) 0 idle) refl)
      (λ (s : OwedSlot p plan k (slot_at p table k t)).
      absurd (false_not_true (off_core_keeps_none p plan k off s.task s.is_task) (kept_where_ticks p plan k s.task s.has_ticks)))
      ((drawing_serves_cores p (valid_is_periodic valid) plan table drawn k h).idle_or_owed t l)

  load_of_kept_task : (i : ℕ) → i < task_count p → keeps p plan k i ≡ true → 0 < core_load p plan k
  unfolding core_load load_on jobs ticks_on job_ticks
  load_of_kept_task i is_task kept =
      let periodic = valid_is_periodic valid in
      let each : 0 < job_ticks p plan i =
      ticks_above_zero p.start _ _ (valid.task i is_task).cycles.at_least (valid.level (level_of p plan i) (mod-lt _ valid.level_count_bound.at_least)).speed.at_least in
      let some : 0 < jobs p i = jobs_above_zero p periodic i is_task in
      let product : 0 < load_on p plan k i = rw kept (mul-pos some each) in
      omega (arith, product, term_le_sum (load_on p plan k) (task_count p) i is_task)

  pub awake_core_is_busy : is_awake p plan k ≡ true → SomeBusy (busy_at p table k) (span p)
  awake_core_is_busy awake =
      let kept = awake_core_keeps_task p plan k awake in
      let found = some_counted (busy_at p table k) (span p) (rw busy_for_load (load_of_kept_task kept.0 kept.1 kept.2)) in
      record { tick = found.0; within = found.1; is_busy = found.2 }

  -- with no sleep the energy is that of request (a)
  pub awake_energy_is_idle_energy : (energy time : ℕ) →
      chosen_energy (costs_of p energy time) (busy_at p table k) (span p) (λ t. false) ≡ p.idle * idle_ticks p plan k
  awake_energy_is_idle_energy energy time = go (is_awake p plan k) refl
    where
      go : (awake : Bool) → is_awake p plan k ≡ awake →
          chosen_energy (costs_of p energy time) (busy_at p table k) (span p) (λ t. false) ≡ p.idle * idle_ticks p plan k
      go true e =
          let kept = awake_core_keeps_task p plan k e in
          energy_without_sleep (costs_of p energy time) (busy_at p table k) (span p) (table_row_repeats p table k) (awake_core_is_busy e)
          ∙ ap (λ (n : ℕ). p.idle * n)
          (◌∙◌ {b = span p - core_load p plan k} (omega (arith, idle_slots_are_rest)) (sym (idle_ticks_of_awake_core p plan k kept.0 kept.1 kept.2)))
      go false e =
          no_energy_of_idle_row (costs_of p energy time) (busy_at p table k) (span p) (off_core_is_idle e)
          ∙ sym (ap (λ (n : ℕ). p.idle * n) (no_idle_ticks_of_off_core p plan k (off_core_keeps_none p plan k e)) ∙ mul-zero p.idle)
