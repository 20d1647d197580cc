use Prim.Native.Nat.{◌+◌, ◌-◌, ◌*◌, ◌≤◌}
use Rattle.instance.specs.Held.{problem_in}
use Rattle.lagrangian.specs.TimedCores.{timing_width}
use Rattle.offers.specs.TimedOptions.{TimingsOffered}
use Rattle.offers.proofs.timings.fill_timing.Given as goal

abbrev pub invariant-loop-w : goal.invariant-loop-w
invariant-loop-w l = (l.w ≤ l.words) × TimingsOffered (problem_in l.inst) (l.i * timing_width + l.w) l.timings
