-- Jobs whose ticks a dispatcher gives out call by call, where jobs may be reported ended.
use Rattle.std.specs.Prelude.{ℕ, suc, ◌+◌, ◌*◌, ◌<◌, Bool, true, ◌≡◌}
use Rattle.dispatch.specs.Rows.{CoreTasks}
use Rattle.edf.specs.Demand.{slots_of_job}

-- "finished by its deadline": job j of task i had all its ticks in its window; or it ran in a tick of its window, the next call, still
-- before its due tick, reported that the job which ran in the tick before had ended, and so it had
pub data Finished (core : CoreTasks) (answers : ℕ → ℕ) (reports : ℕ → Bool) (i j : ℕ) : Type 0 where
  ran_in_full : slots_of_job answers core i j ≡ core.ticks i → Finished core answers reports i j
  ended_by_report : (x : ℕ) → suc x < core.window i → answers (j * core.period i + x) ≡ suc i →
      reports (suc (j * core.period i + x)) ≡ true → Finished core answers reports i j

-- once job j of task i ran in a tick and the next call reported it ended, it runs in no later tick before the task's next release
abbrev pub NoneAfterReport : CoreTasks → (answers : ℕ → ℕ) → (reports : ℕ → Bool) → ℕ → ℕ → Type 0
NoneAfterReport core answers reports i j =
    (x : ℕ) → answers (j * core.period i + x) ≡ suc i → reports (suc (j * core.period i + x)) ≡ true →
    (y : ℕ) → x < y → y < core.period i → answers (j * core.period i + y) ≡ suc i → ⊥
