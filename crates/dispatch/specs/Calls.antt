-- Document 02 (f), "A dispatcher on the node": it "is called once a tick, answers the task to run or 0, and remembers what every
-- kept task still has to run". A call is the step that rows are made of, with an early end before it and the wrap after it.
use Rattle.std.specs.Prelude.{ℕ, zero, suc, Bool, cond, ◌&&◌, eqb, get_or}
use Rattle.laws.specs.Lists.{list_of}
use Rattle.dispatch.specs.Rows.{CoreTasks, Dispatch, start, step}

-- the ticks left of task i where a call reports, or does not, that the job of task `last` "which ran in the tick before has
-- ended early": none then. That "has no effect if that job had its full ticks".
unfoldable pub after_end : Bool → (last i left : ℕ) → ℕ
after_end reported last i left = cond (reported && eqb (suc i) last) 0 left

unfoldable pub ended_early : CoreTasks → Bool → Dispatch → Dispatch
ended_early core reported s =
    record {
      tick = s.tick;
      left = list_of (λ i. after_end reported s.last i (get_or s.left i 0)) core.size;
      last = s.last;
    }

-- "after the span's last tick comes 0"
unfoldable pub wrapped : ℕ → Dispatch → Dispatch
wrapped span s = record { tick = cond (eqb s.tick span) 0 s.tick; left = s.left; last = s.last }

-- one call. An early end "is applied before new jobs are released".
unfoldable pub call : CoreTasks → ℕ → Bool → Dispatch → Dispatch
call core span reported s = wrapped span (step core (ended_early core reported s))

-- after n calls "from a fresh start (tick 0, no ticks left, last task 0)"; call n, counted from 0, reports an early end or not
unfoldable pub called : CoreTasks → ℕ → (reports : ℕ → Bool) → ℕ → Dispatch
called core span reports zero = start core
called core span reports (suc n) = call core span (reports n) (called core span reports n)

-- the task that call n answers
abbrev pub answered : CoreTasks → ℕ → (reports : ℕ → Bool) → ℕ → ℕ
answered core span reports n = (called core span reports (suc n)).last
