use Prim.Native.Nat.{◌-◌, ◌*◌, ◌≤◌}
use mathlib.Core.Path.{refl}
use native.Mathlib.Nat.{le_trans, add-le-add, mul-le-mul, sub-le}
use native.Mathlib.Omega.{arith}
use Rattle.ranges.specs.Limits.{most_idle_power, most_power, most_span}
use Rattle.offers.proofs.options.cost_of.Goals as goal
use Rattle.offers.proofs.options.cost_of.Goals.{Else-all-load}

pub returns-then-all-load : goal.returns-then-all-load
returns-then-all-load c = λ fits. absurd (omega arith)

-- what a load draws that a core takes, and what the core draws in the ticks that it leaves

busy_at_most : (c : Else-all-load) → c.args.load * c.args.power ≤ most_span * most_power
busy_at_most c = mul-le-mul (le_trans (omega arith) c.requires.1) c.requires.2

idle_at_most : (c : Else-all-load) → c.args.idle * (c.args.span - c.args.load) ≤ most_idle_power * most_span
idle_at_most c = mul-le-mul c.requires.3 (le_trans (sub-le _ _) c.requires.1)

pub overflow_mul-result : goal.overflow_mul-result
overflow_mul-result c = omega (arith, busy_at_most (goal.at.overflow_mul-result c).Else-all-load)

pub overflow_mul-result-2 : goal.overflow_mul-result-2
overflow_mul-result-2 c = omega (arith, idle_at_most (goal.at.overflow_mul-result-2 c).Else-all-load)

pub overflow_add-result : goal.overflow_add-result
overflow_add-result c = omega (arith, busy_at_most (goal.at.overflow_add-result c).Else-all-load, idle_at_most (goal.at.overflow_add-result c).Else-all-load)

pub overflow_mul-result-3 : goal.overflow_mul-result-3
overflow_mul-result-3 c = omega (arith, mul-le-mul c.requires.0 (add-le-add (busy_at_most (goal.at.overflow_mul-result-3 c).Else-all-load) (idle_at_most (goal.at.overflow_mul-result-3 c).Else-all-load)))

pub returns : goal.returns
returns c = λ fits. refl
