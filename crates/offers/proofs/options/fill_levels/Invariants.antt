use Prim.Native.Nat.{◌+◌, ◌*◌, ◌-◌, ◌≤◌}
use Rattle.instance.specs.Held.{problem_in}
use Rattle.ranges.specs.Limits.{most_levels}
use Rattle.offers.specs.OfferedOptions.{LevelsOffered}
use Rattle.offers.proofs.options.fill_levels.Given as goal

abbrev pub invariant-loop-l : goal.invariant-loop-l
invariant-loop-l l =
    (l.l ≤ l.inst.levelcount) × LevelsOffered (problem_in l.inst) (l.i * most_levels + l.l) l.load l.cost
