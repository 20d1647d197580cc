use Prim.Native.Nat.{◌*◌, ◌≤◌}
use mathlib.Core.Path.{refl}
use native.Mathlib.Omega.{arith}
use native.Mathlib.Nat.{mul-le-mul}
use Rattle.instance.specs.Held.{problem_in, held_span}
use Rattle.ranges.specs.Limits.{most_idle_power, most_weight}
use Rattle.offers.specs.HeldOptions.{held_span_at_most, energy_weight_at_most, idle_power_at_most}
use Rattle.offers.specs.OptionsOf.{idle_cost}
use Rattle.planner.proofs.best.idle_span_cost.Goals as goal
use Rattle.planner.proofs.best.idle_span_cost.Goals.{Start}

-- what an idle tick costs
tick_at_most : (c : goal.Start) → c.args.inst.weights.energy * c.args.inst.idle ≤ most_weight * most_idle_power
tick_at_most c = mul-le-mul (energy_weight_at_most _ c.requires) (idle_power_at_most _ c.requires)

pub overflow_mul-result : goal.overflow_mul-result
overflow_mul-result c =
    omega (arith, tick_at_most (goal.at.overflow_mul-result c).Start)

pub overflow_mul-result-2 : goal.overflow_mul-result-2
overflow_mul-result-2 c =
    omega (arith, mul-le-mul (tick_at_most (goal.at.overflow_mul-result-2 c).Start) (held_span_at_most _ c.requires))

pub returns : goal.returns
unfolding idle_cost problem_in
returns c = rw (held_span _ c.requires) refl
