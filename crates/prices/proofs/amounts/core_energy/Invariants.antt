use Prim.Native.Nat.{◌-◌, ◌≤◌}
use mathlib.Core.Path.{◌≡◌}
use Rattle.instance.specs.Held.{problem_in}
use Rattle.plan_rules.specs.KeptSumLaws.{sum_of_kept}
use Rattle.prices.specs.PriceBounds.{energy_on}
use Rattle.plan_rules.specs.Quantities.{load_on}
use Rattle.prices.proofs.amounts.core_energy.Given as goal

abbrev pub invariant-loop-j : goal.invariant-loop-j
invariant-loop-j l =
    (l.j ≤ l.kept.count) × (l.busy ≡ sum_of_kept l.kept (energy_on (problem_in l.inst) l.plan l.k) l.j) × (l.load ≡ sum_of_kept l.kept (load_on (problem_in l.inst) l.plan l.k) l.j)
