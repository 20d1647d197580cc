-- `cores_fit` tries the cores in order: each that it has passed fits.
use Prim.Native.Nat.{ℕ, ◌-◌, ◌≤◌, ◌<◌}
use mathlib.Core.Bool.{false, not}
use mathlib.Core.Path.{◌≡◌}
use Rattle.instance.specs.Held.{problem_in}
use Rattle.plan_rules.specs.Plans.{fits}
use Rattle.plan_rules.proofs.plan.cores_fit.Given as goal

abbrev pub invariant-loop-k : goal.invariant-loop-k
invariant-loop-k l = (l.k ≤ l.cores) × ((j : ℕ) → j < l.k → not (fits (problem_in l.inst) l.plan j) ≡ false)
