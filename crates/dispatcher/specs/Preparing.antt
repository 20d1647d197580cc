-- A core prepared once for the node's own loop, and a tick over it.
use Rattle.std.specs.Prelude.{ℕ, pred, ◌≤◌, Bool, cond, List, [], ◌∷◌, ◌≡◌, leb, take, Result, Ok, Err, IfOk}
use Rattle.ranges.specs.Limits.{most_tasks}
use Rattle.instance.specs.Node.{Problem, span, task_count}
use Rattle.instance.specs.SiteFile.{problem_of}
use Rattle.plan_rules.specs.KeptColumns.{KeptColumns}
use Rattle.plan_rules.specs.declared.columns.KeptTasks.{KeptTasks}
use Rattle.refusals.specs.Endings.{Ends, read_then}
use Rattle.refusals.specs.Refusals.{◌and_then◌, Verdict, accepted, verdict_of}
use Rattle.refusals.specs.declared.Refusal.{Refusal}
use Rattle.refusals.specs.declared.Refusal.TheVariants.{CoreOrState}
use Rattle.dispatch.specs.Rows.{CoreTasks}
use Rattle.dispatcher.specs.Columns.{columns_pass, numbered_tasks}
use Rattle.dispatcher.specs.Outcomes.{DispatchEnds, preparing_tests}
use Rattle.dispatcher.specs.States.{call_passes, dispatched_where}
use Rattle.dispatcher.specs.declared.DispatchState.{DispatchState}
use Rattle.dispatcher.specs.declared.Dispatched.{Dispatched}
use Rattle.dispatcher.specs.declared.preparing.PreparedCore.{PreparedCore}

abbrev pub core_of : ℕ → KeptTasks → PreparedCore
core_of its_span kept =
    record {
      span = its_span;
      count = kept.count;
      numbers = kept.numbers;
      periods = kept.periods;
      windows = kept.windows;
      ticks = kept.ticks;
    }

-- the first `count` places of the columns are those of the tasks that the plan keeps on core k, counted from 0; the others are free
pub record HoldsCore (p : Problem) (plan : List ℕ) (k : ℕ) (core : PreparedCore) : Type 0 where
  pub kept : KeptTasks
  pub its_columns : KeptColumns p plan k (task_count p) kept
  pub is_core : core ≡ core_of (span p) kept

pub record Prepares (words plan : List ℕ) (core : ℕ) (prepared : Result PreparedCore Refusal) : Type 0 where
  -- 2, 3, 4; 7, 8; then 12 of the core
  pub as_tested : verdict_of prepared ≡ read_then (problem_of words) (λ p. preparing_tests p plan core)
  pub holds_core : (p : Problem) → problem_of words ≡ Ok p → IfOk prepared (HoldsCore p plan (pred core))
  pub no_more_than_places : IfOk prepared (λ c. c.count ≤ most_tasks)

abbrev pub tasks_of : PreparedCore → CoreTasks
tasks_of core =
    let n = core.count in
    numbered_tasks (take n core.numbers) (take n core.periods) (take n core.windows) (take n core.ticks)

-- a core with more tasks than places is none: 12; then those of a tick over its columns
abbrev pub core_tests : PreparedCore → DispatchState → Bool → Verdict
core_tests core s ended =
    let n = core.count in
    cond (leb n most_tasks) accepted (Err CoreOrState)
    and_then columns_pass (take n core.numbers) (take n core.periods) (take n core.windows) (take n core.ticks)
    and_then call_passes (tasks_of core) core.span s ended

-- a tick over a core, whatever it holds
unfoldable pub core_outcome : PreparedCore → DispatchState → Bool → Dispatched
core_outcome core s ended = dispatched_where (core_tests core s ended) (tasks_of core) core.span s ended

-- 2, 3, 4; 7, 8; then 12 of the core
abbrev pub PreparingEnds : (words plan : List ℕ) → ℕ → Result PreparedCore Refusal → Type 0
PreparingEnds words plan core prepared =
    Ends (read_then (problem_of words) (λ p. preparing_tests p plan core)) (2 ∷ 3 ∷ 4 ∷ 7 ∷ 8 ∷ 12 ∷ []) [] (verdict_of prepared)

-- 12; then 13
abbrev pub CoreTickEnds : PreparedCore → DispatchState → Bool → Dispatched → Type 0
CoreTickEnds core s ended = DispatchEnds (core_tests core s ended) (12 ∷ 13 ∷ []) s

-- a tick over what preparing answered
abbrev pub prepared_outcome : Result PreparedCore Refusal → DispatchState → Bool → Dispatched
prepared_outcome (Ok core) s ended = core_outcome core s ended
prepared_outcome (Err r) s ended = record { verdict = Err r; task = 0; state = s }
