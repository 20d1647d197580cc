-- `jobs_served` goes from job to job: each that it has passed is served.
use Prim.Native.Nat.{ℕ, ◌-◌, ◌≤◌, ◌<◌}
use mathlib.Core.Bool.{true}
use mathlib.Core.Path.{◌≡◌}
use Rattle.checks.specs.HeldJobs.{job_served_at}
use Rattle.checks.proofs.jobs.jobs_served.Given as goal

abbrev pub invariant-loop-j : goal.invariant-loop-j
invariant-loop-j l =
    (l.j ≤ l.jobs) × ((x : ℕ) → x < l.j → job_served_at l.table l.from l.number l.period l.window l.ticks x ≡ true)
