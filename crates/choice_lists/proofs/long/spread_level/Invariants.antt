-- `spread_level` goes from point to point.
use Rattle.choice_lists.specs.Spread.{LevelSpread}
use Rattle.choice_lists.proofs.long.spread_level.Given as goal

abbrev pub invariant-loop-point : goal.invariant-loop-point
invariant-loop-point l = LevelSpread l.capacity l.choice 0 l.point-index l.list l.initial.spread l.spread
