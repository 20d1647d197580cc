-- A core's row: earliest deadline first in whole ticks. "The row of a core is worked out from tick 0: among jobs released
-- and not finished, the earliest due runs; of equal ones, the lower task number."
use Rattle.std.specs.Prelude.{ℕ, zero, suc, pred, ◌+◌, ◌*◌, ◌/◌, ◌%◌, cond, List, ltb, eqb, get_or, replicate}
use Rattle.laws.specs.Lists.{list_of}

-- "A row depends on the span and that core's kept tasks only": what one core knows of tasks 0 to size - 1. A task that is
-- not kept on this core has no ticks.
pub record CoreTasks : Type 0 where
  pub size : ℕ
  pub period : ℕ → ℕ
  -- from a job's release tick to its due tick: the relative deadline
  pub window : ℕ → ℕ
  -- of a job
  pub ticks : ℕ → ℕ

-- "Job j (from 0) is released at j·p": the due tick of the job of task i that was released last by tick t
unfoldable pub due_at : CoreTasks → ℕ → ℕ → ℕ
due_at core t i = t / core.period i * core.period i + core.window i

-- the ticks left of task i once the jobs of tick t are released, from those left before. A job that is unfinished when the
-- next of its task is released is dropped, where the paper's rule would let both wait. That happens only on a core that
-- does not fit (`SchedulingTheorems.edf_serves_every_job`), and for a plan with such a core no table is made: it is 8.
unfoldable pub after_release : CoreTasks → ℕ → ℕ → ℕ → ℕ
after_release core t i left = cond (eqb (t % core.period i) 0) (core.ticks i) left

-- of the tasks below n that have ticks left, the number of the one that is due first, of equal ones the lowest; 0 where
-- none has
unfoldable pub earliest : (due left : ℕ → ℕ) → ℕ → ℕ
earliest due left zero = 0
earliest due left (suc i) =
    let best = earliest due left i in
    cond (eqb (left i) 0) best (cond (eqb best 0) (suc i) (cond (ltb (due i) (due (pred best))) (suc i) best))

-- where a core's dispatching stands: the next tick, what each task still has to run, and the number of the task that
-- ran in the tick before, 0 for none
pub record Dispatch : Type 0 where
  pub tick : ℕ
  pub left : List ℕ
  pub last : ℕ

abbrev pub start : CoreTasks → Dispatch
start core = record { tick = 0; left = replicate core.size 0; last = 0 }

-- the number of the task that runs in tick t, from the ticks left before its releases
unfoldable pub chosen : CoreTasks → ℕ → (ℕ → ℕ) → ℕ
chosen core t left = earliest (due_at core t) (λ i. after_release core t i (left i)) core.size

-- the ticks left of task i after a tick in which task `number` ran
unfoldable pub after_run : ℕ → ℕ → ℕ → ℕ
after_run number i left = cond (eqb (suc i) number) (pred left) left

-- one tick
unfoldable pub step : CoreTasks → Dispatch → Dispatch
step core s =
    let left : ℕ → ℕ = λ i. get_or s.left i 0 in
    let number = chosen core s.tick left in
    record {
      tick = suc s.tick;
      left = list_of (λ i. after_run number i (after_release core s.tick i (left i))) core.size;
      last = number;
    }

-- after t ticks
unfoldable pub dispatched : CoreTasks → ℕ → Dispatch
dispatched core zero = start core
dispatched core (suc t) = step core (dispatched core t)

-- "A slot holds a task's number or 0 for idle."
abbrev pub slot_of : CoreTasks → ℕ → ℕ
slot_of core t = (dispatched core (suc t)).last

-- the first n slots
unfoldable pub row : CoreTasks → ℕ → List ℕ
row core n = list_of (slot_of core) n
