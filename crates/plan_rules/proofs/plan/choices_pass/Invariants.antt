-- `choices_pass` tries the choices in order: none that it has passed is bad.
use Prim.Native.Nat.{ℕ, ◌-◌, ◌≤◌, ◌<◌}
use mathlib.Core.Bool.{false}
use mathlib.Core.Path.{◌≡◌}
use Rattle.instance.specs.Held.{problem_in}
use Rattle.plan_rules.specs.Plans.{bad_choice}
use Rattle.plan_rules.proofs.plan.choices_pass.Given as goal

abbrev pub invariant-loop-i : goal.invariant-loop-i
invariant-loop-i l = (l.i ≤ l.inst.taskcount) × ((x : ℕ) → x < l.i → bad_choice (problem_in l.inst) l.plan x ≡ false)
