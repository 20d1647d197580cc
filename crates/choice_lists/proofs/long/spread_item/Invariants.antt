-- `spread_item` goes from level to level.
use Rattle.std.proofs.Common.{length}
use Rattle.choice_lists.specs.Spread.{ItemSpread}
use Rattle.choice_lists.proofs.long.spread_item.Given as goal

abbrev pub invariant-loop-l : goal.invariant-loop-l
invariant-loop-l l = ItemSpread l.front 0 (length l.list) l.offers.load.now l.offers.cost.now l.list l.l l.spread
