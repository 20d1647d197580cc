-- Where the demand condition holds, the only job of a task that can be unfinished is the one released last: earliest
-- deadline first has given the earlier ones all their ticks.
use Prim.Native.Nat.{ℕ, zero, suc, ◌+◌, ◌*◌, ◌/◌, ◌%◌, ◌≤◌, ◌<◌}
use Rattle.std.proofs.Math.Bool.{Bool}
use Rattle.std.proofs.Common.{⊎_elim, ◌∙◌, eq-or-lt_of_le, le-div_iff_mul-le, mod-lt, mul-le-mul_right, suc-mul, ne_eqb}
use Rattle.std.specs.Prelude.{◌≡◌}
use Rattle.std.proofs.Math.Path.{ap}
use Rattle.std.proofs.Math.Nat.{div-add-mod', zero-mul}
use native.Mathlib.Omega.{arith}
use Rattle.std.proofs.Math.Dec.{eqb}
use Rattle.laws.specs.CountLaws.{count_split, count_of_front}
use Rattle.laws.specs.Search.{count}
use Rattle.laws.specs.SearchFacts.{count_same}
use Rattle.dispatch.specs.DispatchLaws.{ready_at, ready_le_ticks}
use Rattle.dispatch.specs.Rows.{CoreTasks, slot_of}
use Rattle.edf.specs.Demand.{WellFormed, Demand, slots_given}
use Rattle.edf.specs.EdfLaws.{slots_so_far, accounted, job_served, no_slot_after_due}
use Rattle.edf.specs.JobsDueLaws.{period_above_0}

module _ (core : CoreTasks) (wf : WellFormed core) (demand : Demand core) (i : ℕ) (l : i < core.size) where
  -- a job has its ticks by the next release
  slots_of_period : (j : ℕ) → slots_so_far core i j (core.period i) ≡ core.ticks i
  slots_of_period j =
      count_of_front _ (core.window i) (core.period i) (wf.window_within_period i l)
      (λ x due before. ne_eqb _ _ (no_slot_after_due core wf demand i j l x due before))
      ∙ job_served core wf demand i j l

  given_by_release : (j : ℕ) → slots_given (slot_of core) i (j * core.period i) ≡ j * core.ticks i
  unfolding slots_given count
  given_by_release zero = rw (zero-mul (core.period i), zero-mul (core.ticks i))
  given_by_release (suc j) =
      rw (suc-mul j (core.period i), count_split (λ u. eqb (slot_of core u) (suc i)) (j * core.period i) (core.period i))
      (omega (arith, given_by_release j, slots_of_period j))

  -- the slots given so far and the ticks left make the ticks of all jobs released
  given_and_ready : (t : ℕ) → slots_given (slot_of core) i t + ready_at core t i ≡ suc (t / core.period i) * core.ticks i
  unfolding slots_given
  given_and_ready t =
      let period = core.period i in
      let job = t / period in
      let its_slot : ℕ → Bool = λ u. eqb (slot_of core u) (suc i) in
      let parts : job * period + t % period ≡ t = div-add-mod' t period in
      let account = accounted core i job l (t % period) (mod-lt t (period_above_0 wf i l)) in
      omega (
        arith,
        rw parts at account,
        ap (count its_slot) parts,
        count_split its_slot (job * period) (t % period),
        given_by_release job,
      )

  -- a row that earliest deadline first fills up to tick t
  module _ (slots : ℕ → ℕ) (t : ℕ) (same : (u : ℕ) → u < t → slots u ≡ slot_of core u) where
    given_and_ready_so_far : slots_given slots i t + ready_at core t i ≡ suc (t / core.period i) * core.ticks i
    unfolding slots_given
    given_and_ready_so_far =
        rw (count_same (λ u. eqb (slots u) (suc i)) (λ u. eqb (slot_of core u) (suc i)) t (λ u h. ap (λ (s : ℕ). eqb s (suc i)) (same u h)))
        (given_and_ready t)

    -- of the jobs released, only the last can be unfinished, and then it has ticks left
    pub unfinished_is_latest : (j : ℕ) → j * core.period i ≤ t → slots_given slots i t < suc j * core.ticks i →
        (j ≡ t / core.period i) × (0 < ready_at core t i)
    unfinished_is_latest j released unfinished = ⊎_elim at_last before_last (eq-or-lt_of_le ((le-div_iff_mul-le (period_above_0 wf i l)).1 released))
      where
        at_last : j ≡ t / core.period i → (j ≡ t / core.period i) × (0 < ready_at core t i)
        at_last e = (e, omega (arith, given_and_ready_so_far, ap (λ (n : ℕ). n * core.ticks i) e))

        before_last : j < t / core.period i → (j ≡ t / core.period i) × (0 < ready_at core t i)
        before_last earlier =
            absurd (omega (arith, given_and_ready_so_far, ready_le_ticks core t i l, mul-le-mul_right (core.ticks i) earlier))

    pub ready_is_unfinished : 0 < ready_at core t i → slots_given slots i t < suc (t / core.period i) * core.ticks i
    ready_is_unfinished ready = omega (arith, given_and_ready_so_far)
