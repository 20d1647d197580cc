-- Document 02 (f): what a dispatcher remembers between calls, which states may be handed in, and what a call then answers.
use Rattle.std.specs.Prelude.{ℕ, pred, Bool, cond, ◌&&◌, ◌||◌, List, leb, ltb, eqb, get_or, replicate, Ok, Err}
use Rattle.laws.specs.Lists.{list_of}
use Rattle.laws.specs.Search.{every}
use Rattle.ranges.specs.Limits.{most_tasks}
use Rattle.dispatch.specs.Calls.{call}
use Rattle.dispatch.specs.Rows.{CoreTasks, Dispatch}
use Rattle.refusals.specs.Refusals.{◌and_then◌, Verdict, accepted}
use Rattle.refusals.specs.declared.Refusal.TheVariants.{CoreOrState, EarlyEnd}
use Rattle.dispatcher.specs.declared.DispatchState.{DispatchState}
use Rattle.dispatcher.specs.declared.Dispatched.{Dispatched}

-- "a fresh start (tick 0, no ticks left, last task 0)"
abbrev pub fresh_state : DispatchState
fresh_state = record { tick = 0; left = replicate most_tasks 0; last = 0 }

abbrev pub as_dispatch : DispatchState → Dispatch
as_dispatch s = record { tick = s.tick; left = s.left; last = s.last }

-- the state has a place for each task that a site can have: beyond a core's tasks nothing is left
abbrev pub as_state : Dispatch → DispatchState
as_state s = record { tick = s.tick; left = list_of (λ i. get_or s.left i 0) most_tasks; last = s.last }

-- the ticks of a job of task i on this core. A task that is not kept there has none, and so has one beyond the tasks.
unfoldable pub ticks_of : CoreTasks → ℕ → ℕ
ticks_of core i = cond (ltb i core.size) (core.ticks i) 0

-- not "more ticks left than a job has (any at all, for a task not kept on that core)"
unfoldable pub left_fits : CoreTasks → List ℕ → Bool
left_fits core left = every (λ i. leb (get_or left i 0) (ticks_of core i)) most_tasks

-- not "a last task, other than 0 for none, not kept there"
unfoldable pub last_fits : CoreTasks → ℕ → Bool
last_fits core last = eqb last 0 || ltb 0 (ticks_of core (pred last))

-- nor "a tick not below the span"
unfoldable pub state_fits : CoreTasks → ℕ → DispatchState → Bool
state_fits core span s = ltb s.tick span && left_fits core s.left && last_fits core s.last

-- 12, of the state
unfoldable pub state_passes : CoreTasks → ℕ → DispatchState → Verdict
state_passes core span s = cond (state_fits core span s) accepted (Err CoreOrState)

-- 13: "an early end reported after an idle tick or before the first"
unfoldable pub end_passes : DispatchState → Bool → Verdict
end_passes s ended = cond (ended && eqb s.last 0) (Err EarlyEnd) accepted

abbrev pub call_passes : CoreTasks → ℕ → DispatchState → Bool → Verdict
call_passes core span s ended = state_passes core span s and_then end_passes s ended

-- a call that its tests let pass answers the task to run and the next state. A refusal leaves "the state as handed in", and no task
-- runs.
abbrev pub dispatched_where : Verdict → CoreTasks → ℕ → DispatchState → Bool → Dispatched
dispatched_where (Ok tt) core span s ended =
    let after = call core span ended (as_dispatch s) in record { verdict = accepted; task = after.last; state = as_state after }
dispatched_where (Err r) core span s ended = record { verdict = Err r; task = 0; state = s }
