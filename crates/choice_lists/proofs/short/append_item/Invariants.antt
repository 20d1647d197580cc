-- `append_item` goes from level to level.
use Rattle.choice_lists.specs.Appended.{ItemAppended}
use Rattle.choice_lists.proofs.short.append_item.Given as goal

abbrev pub invariant-loop-l : goal.invariant-loop-l
invariant-loop-l l = ItemAppended l.front l.part.from l.part.to l.used l.offers.load.now l.offers.cost.now l.initial.points l.l l.points l.end
