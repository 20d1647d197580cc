-- The scheduling theorems, for any number of tasks on a core and any windows 1 ≤ d ≤ p. Their words are defined in `Demand`
-- and `Rows`; the proofs stand in the files of laws.
use Rattle.std.specs.Prelude.{ℕ, ◌/◌, ◌≤◌, ◌<◌, true, ◌≡◌, ◌⊎◌, ◌↔◌}
use Rattle.std.proofs.Common.{sym, ◌∙◌}
use Rattle.edf.specs.Demand.{WellFormed, WholePeriods, Demand, Serves, NoSlotAfterDue, NamesTask, KeptAlsoBy}
use Rattle.edf.specs.Demand.{meets_demand, slots_of_job, span_load, repeated}
use Rattle.edf.specs.DemandLaws.{meets_demand_iff, demand_bounds_load}
use Rattle.edf.specs.EdfLaws.{slot_names_task, job_served, no_slot_after_due}
use Rattle.edf.specs.KeptTaskLaws.{same_slots}
use Rattle.edf.specs.LoadLaws.{period_windows_well_formed, load_within_span_is_demand}
use Rattle.edf.specs.RepeatedRowLaws.{job_of_span, repeated_slot, repeated_slots_of_job}
use Rattle.dispatch.specs.Rows.{CoreTasks, slot_of}
use Rattle.edf.specs.ServedLaws.{served_core_meets_demand}

-- Where the demand condition holds, earliest deadline first gives every job, however late it is released, exactly its
-- ticks in its window ..
pub edf_serves_every_job : (core : CoreTasks) → WellFormed core → Demand core → (i j : ℕ) → i < core.size →
    slots_of_job (slot_of core) core i j ≡ core.ticks i
edf_serves_every_job core wf demand i j l = job_served core wf demand i j l

-- .. and no slot between its due tick and the next release.
pub edf_no_slot_after_due : (core : CoreTasks) → WellFormed core → Demand core → (i j : ℕ) → i < core.size →
    NoSlotAfterDue (slot_of core) core i j
edf_no_slot_after_due core wf demand i j l = no_slot_after_due core wf demand i j l

-- Every slot is idle or names a task that has ticks on this core.
pub edf_slots_name_tasks_with_ticks : (core : CoreTasks) (t : ℕ) → (slot_of core t ≡ 0) ⊎ NamesTask core (slot_of core t)
edf_slots_name_tasks_with_ticks core t = slot_names_task core t

-- "A row depends on the span and that core's kept tasks only": two cores that keep the same tasks have the same slots,
-- however many tasks they do not keep, and whatever these are
pub row_depends_on_kept_tasks : (core core₂ : CoreTasks) → KeptAlsoBy core₂ core → KeptAlsoBy core core₂ →
    (t : ℕ) → slot_of core t ≡ slot_of core₂ t
row_depends_on_kept_tasks core core₂ also also₂ t = same_slots core core₂ also also₂ t

-- (c) "A core fits exactly when some row gives each job its ticks in time": by no tick of the span is more due than there are
-- ticks up to it, exactly when some row, by whatever rule it was drawn, serves each job of the span.
pub demand_is_met_iff_some_row_serves : (core : CoreTasks) (span : ℕ) → WellFormed core → WholePeriods core span →
    (meets_demand core span ≡ true) ↔ ((slots : ℕ → ℕ) × Serves slots span core)
demand_is_met_iff_some_row_serves core span wf whole = (
  λ met.
      let demand = (meets_demand_iff core wf span whole).0 met in
      (slot_of core, record { each_job = λ i j l of_span. edf_serves_every_job core wf demand i j l }),
  λ served. served_core_meets_demand core wf span whole served.0 served.1,
)

-- One span decides: where the demand is met by each of its ticks, it is met by every tick.
pub one_span_decides_demand : (core : CoreTasks) (span : ℕ) → WellFormed core → WholePeriods core span →
    (meets_demand core span ≡ true) ↔ Demand core
one_span_decides_demand core span wf whole = meets_demand_iff core wf span whole

-- The load is then at most the span ..
pub load_of_met_demand : (core : CoreTasks) (span : ℕ) → WellFormed core → WholePeriods core span → Demand core → span_load core span ≤ span
load_of_met_demand core span wf whole demand = demand_bounds_load core wf span whole demand

-- .. and where each job is due at the next release, nothing else is asked.
pub load_decides_demand : (core : CoreTasks) (span : ℕ) → WholePeriods core span →
    ((i : ℕ) → i < core.size → core.window i ≡ core.period i) → (meets_demand core span ≡ true) ↔ (span_load core span ≤ span)
load_decides_demand core span whole at_period_end =
    let wf = period_windows_well_formed core span whole at_period_end in (
      λ met. demand_bounds_load core wf span whole ((meets_demand_iff core wf span whole).0 met),
      λ fits. (meets_demand_iff core wf span whole).1 (load_within_span_is_demand core span whole at_period_end fits),
    )

-- Whatever row serves each job of a span, its tasks meet the demand condition.
pub served_meets_demand : (core : CoreTasks) (span : ℕ) (slots : ℕ → ℕ) → WellFormed core → WholePeriods core span →
    Serves slots span core → Demand core
served_meets_demand core span slots wf whole serves =
    (meets_demand_iff core wf span whole).0 (served_core_meets_demand core wf span whole slots serves)

-- A row that serves each job of a span, repeated, serves every job for ever ..
pub repeated_row_serves_for_ever : (core : CoreTasks) (span : ℕ) (slots : ℕ → ℕ) → WellFormed core → WholePeriods core span →
    Serves slots span core → (i j : ℕ) → i < core.size → slots_of_job (repeated span slots) core i j ≡ core.ticks i
repeated_row_serves_for_ever core span slots wf whole serves i j l =
    repeated_slots_of_job core wf span whole i j l slots ∙ serves.each_job i _ l (job_of_span core wf span whole i j l)

-- .. and one with no slot after the due ticks of a span has none for ever.
pub repeated_row_no_slot_after_due : (core : CoreTasks) (span : ℕ) (slots : ℕ → ℕ) → WellFormed core → WholePeriods core span →
    ((i j : ℕ) → i < core.size → j < span / core.period i → NoSlotAfterDue slots core i j) →
    (i j : ℕ) → i < core.size → NoSlotAfterDue (repeated span slots) core i j
repeated_row_no_slot_after_due core span slots wf whole none_after i j l x due before named =
    none_after i _ l (job_of_span core wf span whole i j l) x due before (sym (repeated_slot core wf span whole i j l slots x before) ∙ named)
