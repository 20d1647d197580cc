use Prim.Native.Nat.{◌-◌, ◌≤◌}
use mathlib.Core.Path.{◌≡◌}
use Rattle.laws.specs.Sums.{sum}
use Rattle.instance.specs.Held.{problem_in}
use Rattle.prices.specs.Prices.{core_energy}
use Rattle.prices.proofs.amounts.all_energy.Given as goal

abbrev pub invariant-loop-k : goal.invariant-loop-k
invariant-loop-k l = (l.k ≤ l.cores) × (l.total ≡ sum (core_energy (problem_in l.inst) l.plan) l.k)
