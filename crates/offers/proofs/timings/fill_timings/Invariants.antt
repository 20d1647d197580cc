use Prim.Native.Nat.{◌-◌, ◌*◌, ◌≤◌}
use Rattle.instance.specs.Held.{problem_in}
use Rattle.lagrangian.specs.TimedCores.{timing_width}
use Rattle.offers.specs.TimedOptions.{TimingsOffered}
use Rattle.offers.proofs.timings.fill_timings.Given as goal

abbrev pub invariant-loop-i : goal.invariant-loop-i
invariant-loop-i l = (l.i ≤ l.inst.taskcount) × TimingsOffered (problem_in l.inst) (l.i * timing_width) l.timings
