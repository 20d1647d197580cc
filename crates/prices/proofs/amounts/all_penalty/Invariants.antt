use Prim.Native.Nat.{◌-◌, ◌≤◌}
use mathlib.Core.Path.{◌≡◌}
use Rattle.laws.specs.Sums.{sum}
use Rattle.instance.specs.Held.{problem_in}
use Rattle.prices.specs.PriceBounds.{penalty_of}
use Rattle.prices.proofs.amounts.all_penalty.Given as goal

abbrev pub invariant-loop-i : goal.invariant-loop-i
invariant-loop-i l = (l.i ≤ l.inst.taskcount) × (l.penalty ≡ sum (penalty_of (problem_in l.inst) l.plan) l.i)
