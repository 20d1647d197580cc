-- What the scheduling theorems speak of: the demand of a core's tasks, and rows that serve their jobs. A row is a function
-- from ticks to slots, and job j of task i stands in the window of ticks j·p up to, but without, j·p + d.
use Rattle.std.specs.Prelude.{ℕ, suc, ◌+◌, ◌-◌, ◌*◌, ◌/◌, ◌%◌, ◌≤◌, ◌<◌, ◌≡◌, Bool, leb, eqb}
use Rattle.std.specs.Int.{◌∣◌}
use Rattle.laws.specs.Search.{count, every}
use Rattle.laws.specs.Sums.{sum}
use Rattle.dispatch.specs.Rows.{CoreTasks}

-- windows that are not empty and end by the next release
pub record WellFormed (core : CoreTasks) : Type 0 where
  pub window_above_0 : (i : ℕ) → i < core.size → 1 ≤ core.window i
  pub window_within_period : (i : ℕ) → i < core.size → core.window i ≤ core.period i

-- a span that every period divides, so that all releases begin anew after it
pub record WholePeriods (core : CoreTasks) (span : ℕ) : Type 0 where
  pub span_above_0 : 0 < span
  pub period_divides : (i : ℕ) → i < core.size → core.period i ∣ span

-- how many jobs of task i are due by tick x: the jobs j with j·p + d ≤ x
unfoldable pub jobs_due : CoreTasks → ℕ → ℕ → ℕ
jobs_due core i x = (x + (core.period i - core.window i)) / core.period i

-- the ticks of those jobs
abbrev pub ticks_due : CoreTasks → ℕ → ℕ → ℕ
ticks_due core x i = core.ticks i * jobs_due core i x

-- what is due by tick x: the demand
unfoldable pub demand_at : CoreTasks → ℕ → ℕ
demand_at core x = sum (ticks_due core x) core.size

-- whether by no tick of a span more is due than there are ticks up to it
unfoldable pub meets_demand : CoreTasks → ℕ → Bool
meets_demand core span = every (λ x. leb (demand_at core x) x) (suc span)

-- by no tick x are more than x ticks due
pub record Demand (core : CoreTasks) : Type 0 where
  pub met_by : (x : ℕ) → demand_at core x ≤ x

-- "jobs × ticks": what task i asks for over a span
abbrev pub load_of : CoreTasks → ℕ → ℕ → ℕ
load_of core span i = span / core.period i * core.ticks i

-- and what all tasks ask for
abbrev pub span_load : CoreTasks → ℕ → ℕ
span_load core span = sum (load_of core span) core.size

-- a slot that holds the number of a task with ticks: of one that is kept on this core
pub record NamesTask (core : CoreTasks) (slot : ℕ) : Type 0 where
  pub task : ℕ
  pub is_task : task < core.size
  pub its_number : slot ≡ suc task
  pub has_ticks : 0 < core.ticks task

-- the slots with task i's number among the first t of a row
unfoldable pub slots_given : (ℕ → ℕ) → ℕ → ℕ → ℕ
slots_given slots i t = count (λ u. eqb (slots u) (suc i)) t

-- the slots with the number of task i in the window of its job j
abbrev pub slots_of_job : (ℕ → ℕ) → CoreTasks → ℕ → ℕ → ℕ
slots_of_job slots core i j = count (λ x. eqb (slots (j * core.period i + x)) (suc i)) (core.window i)

-- each job released within the span has exactly its ticks in its window
pub record Serves (slots : ℕ → ℕ) (span : ℕ) (core : CoreTasks) : Type 0 where
  pub each_job : (i j : ℕ) → i < core.size → j < span / core.period i → slots_of_job slots core i j ≡ core.ticks i

-- no slot of task i between the due tick of its job j and the next release
abbrev pub NoSlotAfterDue : (ℕ → ℕ) → CoreTasks → ℕ → ℕ → Type 0
NoSlotAfterDue slots core i j =
    (x : ℕ) → core.window i ≤ x → x < core.period i → slots (j * core.period i + x) ≡ suc i → ⊥

-- "Repeated, a row shows at tick t, however large, its slot t modulo L"
abbrev pub repeated : ℕ → (ℕ → ℕ) → ℕ → ℕ
repeated span slots t = slots (t % span)

-- task i is the same on a second core
pub record SameTask (core core₂ : CoreTasks) (i : ℕ) : Type 0 where
  pub is_task : i < core₂.size
  pub same_period : core.period i ≡ core₂.period i
  pub same_window : core.window i ≡ core₂.window i
  pub same_ticks : core.ticks i ≡ core₂.ticks i

-- whatever is kept on the first core, that is, has ticks there, is the same on the second. Other tasks may be anything.
pub record KeptAlsoBy (core₂ core : CoreTasks) : Type 0 where
  pub kept_task : (i : ℕ) → i < core.size → 0 < core.ticks i → SameTask core core₂ i
