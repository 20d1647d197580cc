-- `text::words::number_from` meets its contract. The loop's invariant: the digits that were passed make `value`, which
-- is a word.
use Prim.Native.Nat.{◌-◌}
use lib.ListN.{length}
use Rattle.text.specs.TokenSteps.{DigitsRead}
use Rattle.text.proofs.words.number_from.Given as goal

abbrev pub invariant-loop-at : goal.invariant-loop-at
invariant-loop-at l = DigitsRead l.text l.first l.value l.at

abbrev pub decreases-loop-at : goal.decreases-loop-at
decreases-loop-at l = length l.text - l.at
