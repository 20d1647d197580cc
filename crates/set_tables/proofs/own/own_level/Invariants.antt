use Rattle.std.proofs.Common.{◌≡◌}
use Rattle.set_tables.specs.OwnPatterns.{own_level}
use Rattle.set_tables.proofs.own.own_level.Given as goal

abbrev pub invariant-loop-level : goal.invariant-loop-level
invariant-loop-level l = l.own ≡ own_level l.core.timings.now l.core.cost.now l.item l.level
