-- `soonest_release` has the next release of the tasks that it has passed.
use Rattle.dispatch.specs.Columns.{NextRelease}
use Rattle.dispatch.proofs.Columns.soonest_release.Given as goal

abbrev pub invariant-loop-period : goal.invariant-loop-period
invariant-loop-period l = NextRelease l.self.periods.now l.period-index l.tick l.end l.soonest
