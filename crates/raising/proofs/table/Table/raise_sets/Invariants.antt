-- `raise_sets` reads each core's set off the key, and tries it where its entry is not exact yet.
use Prim.Native.Nat.{◌≤◌}
use Rattle.raising.specs.TimedSites.{SetsRaised}
use Rattle.raising.proofs.table.Table.raise_sets.Given as goal

abbrev pub invariant-loop-core : goal.invariant-loop-core
invariant-loop-core l =
    (l.raised ≤ l.core)
    × SetsRaised l.offer.site l.key l.offer.timings.now l.offer.cost.now l.self.costs l.self.keys l.initial.self.left l.self.left l.core l.raised
