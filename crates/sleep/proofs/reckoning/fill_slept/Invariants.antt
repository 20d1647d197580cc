-- `fill_slept` has written what the cores that it has passed come to, to the fronts of both lists, and nothing else.
use Prim.Native.Nat.{◌≤◌}
use mathlib.Core.Path.{◌≡◌}
use Rattle.laws.specs.Lists.{list_of, onto}
use Rattle.instance.specs.Held.{problem_in}
use Rattle.sleep.specs.HeldSleeps.{energy_of, sleeps_of}
use Rattle.sleep.proofs.reckoning.fill_slept.Given as goal

abbrev pub invariant-loop-k : goal.invariant-loop-k
invariant-loop-k l =
    (l.k ≤ l.cores)
    × (l.energies ≡ onto (list_of (energy_of (problem_in l.inst) l.table l.switching.energy l.switching.time) l.k) l.initial.energies)
    × (l.sleeps ≡ onto (list_of (sleeps_of (problem_in l.inst) l.table l.switching.energy l.switching.time) l.k) l.initial.sleeps)
