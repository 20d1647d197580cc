-- `jobs_pass` tries the tasks in order: each that it has passed is served.
use Prim.Native.Nat.{ℕ, ◌-◌, ◌≤◌, ◌<◌}
use mathlib.Core.Bool.{false, not}
use mathlib.Core.Path.{◌≡◌}
use Rattle.instance.specs.Held.{problem_in}
use Rattle.checks.specs.Checks.{is_served}
use Rattle.checks.proofs.jobs.jobs_pass.Given as goal

abbrev pub invariant-loop-i : goal.invariant-loop-i
invariant-loop-i l = (l.i ≤ l.inst.taskcount) × ((x : ℕ) → x < l.i → not (is_served (problem_in l.inst) l.plan l.table x) ≡ false)
