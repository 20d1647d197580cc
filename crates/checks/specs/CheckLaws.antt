-- What the tests for the refusals 9 and 10 say when they accept, and the two checks.
use Prim.Native.Nat.{ℕ, zero, suc, ◌+◌, ◌*◌, ◌/◌, ◌%◌, ◌<◌}
use Rattle.std.specs.Prelude.{true, false, not, List, ◌↔◌, ◌⊎◌, ◌≡◌, get_or, Ok, Err}
use Rattle.std.proofs.Math.Logic.{inl, inr}
use mathlib.Core.Logic.Iff
use Rattle.std.proofs.Math.Path.{refl}
use Rattle.std.proofs.Common.{ap, eqb-true, eq-eqb, ne_eqb}
use Rattle.std.proofs.Math.Arith.{digits_lt, digits_div}
use Rattle.std.proofs.Math.Dec.{eqb-suc-zero}
use Rattle.std.proofs.lemmas.Bool.{eqb-false, not-false}
use Rattle.laws.specs.SearchFacts.{every_iff}
use Rattle.laws.specs.Truth.{and_is_true, or_is_true}
use Rattle.instance.specs.Node.{Problem, task_count, span}
use Rattle.refusals.specs.Refusals.{◌and_then◌, Verdict, accepted}
use Rattle.checks.specs.NamedSlots.{KeptSlot, NamedSlots}
use Rattle.checks.specs.Checks.{slot_check, check, stray_value, stray_slot, slots_pass, job_slots, late_slots, is_served, jobs_pass}
use Rattle.plan_rules.specs.AllowedPlans.{AllowedPlan}
use Rattle.tables.specs.Periods.{Periodic, row_of_index, tick_of_index, slot_of_index}
use Rattle.plan_rules.specs.Plans.{choices_pass}
use Rattle.plan_rules.specs.Quantities.{choice_at, jobs, job_ticks}
use Rattle.tables.specs.Tables.{slot_at}
use Rattle.refusals.specs.VerdictLaws.{and_then-accepts, length_accepts, none_refused}
use Rattle.plan_rules.specs.AllowedPlanLaws.{choices_pass-iff}
use Rattle.plan_rules.specs.KeepsLaws.{keeps_iff}

module _ (p : Problem) (plan : List ℕ) (k : ℕ) where
  slot_not_stray : (slot : ℕ) → stray_value p plan k slot ≡ false → (slot ≡ 0) ⊎ KeptSlot p plan k slot
  unfolding stray_value
  slot_not_stray zero e = inl refl
  slot_not_stray (suc i) e =
      let kept = (keeps_iff p plan k i).0 (not-false _ (rw eqb-suc-zero at e)) in
      inr (record { task = i; its_number = refl; kept = kept.0; on_its_core = kept.1 })

  not_stray_slot : (slot : ℕ) → (slot ≡ 0) ⊎ KeptSlot p plan k slot → stray_value p plan k slot ≡ false
  unfolding stray_value
  not_stray_slot slot (inl idle) = rw idle
  not_stray_slot slot (inr r) =
      rw (r.its_number, eqb-suc-zero, (keeps_iff p plan k r.task).1 (r.kept, r.on_its_core))

pub slots_pass-iff : (p : Problem) → Periodic p → (plan table : List ℕ) →
    (slots_pass p plan table ≡ accepted) ↔ NamedSlots p plan table
unfolding slots_pass stray_slot slot_at
slots_pass-iff p periodic plan table = (
  λ e.
      let both = (length_accepts _ _ _ _).0 e in
      record {
        table_length = both.0;
        idle_or_kept = λ k t h l.
            let not_stray = (none_refused _ _ _).0 both.1 (k * span p + t) (digits_lt h l) in
            slot_not_stray p plan k (slot_at p table k t) (rw (digits_div k l) at not_stray);
      },
  λ named.
      (length_accepts _ _ _ _).1 (
        named.table_length,
        (none_refused _ _ _).1 (λ x h.
            let here = named.idle_or_kept (x / span p) (x % span p) (row_of_index p periodic x h) (tick_of_index p periodic x) in
            not_stray_slot p plan (x / span p) (get_or table x 0) (rw slot_of_index at here)),
      ),
)

-- 10: a job has as many slots as ticks between its release and its due tick, and none from there to the next release
pub record ServedJob (p : Problem) (plan table : List ℕ) (i j : ℕ) : Type 0 where
  pub in_window : job_slots p plan table i j ≡ job_ticks p plan i
  pub none_late : late_slots p plan table i j ≡ 0

-- each job of a kept task does
abbrev pub ServedJobs : Problem → List ℕ → List ℕ → Type 0
ServedJobs p plan table =
    (i j : ℕ) → i < task_count p → (choice_at plan i ≡ 0 → ⊥) → j < jobs p i → ServedJob p plan table i j

task_is_served : (p : Problem) (plan table : List ℕ) (i : ℕ) → (is_served p plan table i ≡ true) ↔
    ((choice_at plan i ≡ 0 → ⊥) → (j : ℕ) → j < jobs p i → ServedJob p plan table i j)
unfolding is_served
task_is_served p plan table i = (
  λ e kept j l.
      let both = (and_is_true _ _).0 ((every_iff _ _).0 ((or_is_true _ _).0 e (ne_eqb _ _ kept)) j l) in
      record { in_window = eqb-true _ _ both.0; none_late = eqb-true _ _ both.1 },
  λ served. (or_is_true _ _).1 (λ kept. (every_iff _ _).1 (λ j l.
      let job = served (eqb-false _ _ kept) j l in
      (and_is_true _ _).1 (eq-eqb _ _ job.in_window, eq-eqb _ _ job.none_late))),
)

pub jobs_pass-iff : (p : Problem) (plan table : List ℕ) → (jobs_pass p plan table ≡ accepted) ↔ ServedJobs p plan table
unfolding jobs_pass
jobs_pass-iff p plan table = (
  λ e i j h kept l. (task_is_served p plan table i).0 (not-false _ ((none_refused _ _ _).0 e i h)) kept j l,
  λ served. (none_refused _ _ _).1 (λ i h.
      ap not ((task_is_served p plan table i).1 (λ kept j l. served i j h kept l))),
)

pub slot_check_accepts : (p : Problem) → Periodic p → (plan table : List ℕ) →
    (slot_check p plan table ≡ accepted) ↔ (AllowedPlan p plan × NamedSlots p plan table)
unfolding slot_check
slot_check_accepts p periodic plan table = (
  λ e.
      let both = (and_then-accepts _ _).0 e in
      ((choices_pass-iff p plan).0 both.0, (slots_pass-iff p periodic plan table).0 both.1),
  λ both.
      (and_then-accepts _ _).1 ((choices_pass-iff p plan).1 both.0, (slots_pass-iff p periodic plan table).1 both.1),
)

-- for a plan that 7 lets pass, the first check passes exactly the tables whose slots name the right tasks
pub slot_check_accepts_exactly_named_slots : (p : Problem) → Periodic p → (plan table : List ℕ) →
    choices_pass p plan ≡ accepted → (slot_check p plan table ≡ accepted) ↔ NamedSlots p plan table
slot_check_accepts_exactly_named_slots p periodic plan table passes =
    Iff.trans (slot_check_accepts p periodic plan table) (λ both. both.1, λ named. ((choices_pass-iff p plan).0 passes, named))

pub check_accepts : (p : Problem) → Periodic p → (plan table : List ℕ) →
    (check p plan table ≡ accepted) ↔ (AllowedPlan p plan × NamedSlots p plan table × ServedJobs p plan table)
unfolding check
check_accepts p periodic plan table = (
  λ e.
      let slots_and_jobs = (and_then-accepts _ _).0 e in
      let first = (slot_check_accepts p periodic plan table).0 slots_and_jobs.0 in
      (first.0, first.1, (jobs_pass-iff p plan table).0 slots_and_jobs.1),
  λ all.
      (and_then-accepts _ _).1 (
        (slot_check_accepts p periodic plan table).1 (all.0, all.1),
        (jobs_pass-iff p plan table).1 all.2,
      ),
)

-- "The check tests 7, 9 (length before slots), 10, and not 8."
pub check_in_order : (p : Problem) (plan table : List ℕ) →
    check p plan table ≡ choices_pass p plan and_then slots_pass p plan table and_then jobs_pass p plan table
unfolding check slot_check
check_in_order p plan table = go (choices_pass p plan)
  where
    go : (choices : Verdict) →
        (choices and_then slots_pass p plan table) and_then jobs_pass p plan table
        ≡ choices and_then slots_pass p plan table and_then jobs_pass p plan table
    go (Ok tt) = refl
    go (Err r) = refl
