-- `text::words::count_words` meets its contract. The loop's invariant: the numbers that were passed are counted, and none
-- was at fault.
use Prim.Native.Nat.{◌-◌}
use lib.ListN.{length}
use Rattle.text.specs.TextSteps.{NumbersPassed}
use Rattle.text.proofs.words.count_words.Given as goal

abbrev pub invariant-loop-next : goal.invariant-loop-next
invariant-loop-next l = NumbersPassed l.text l.at l.count

abbrev pub decreases-loop-next : goal.decreases-loop-next
decreases-loop-next l = length l.text - l.at
