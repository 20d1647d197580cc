-- `text::words::write_words` meets its contract. The loop's invariant: the numbers that were passed stand in the buffer.
use Prim.Native.Nat.{◌-◌}
use lib.ListN.{length}
use Rattle.text.specs.TextSteps.{WordsWritten}
use Rattle.text.proofs.words.write_words.Given as goal

abbrev pub invariant-loop-word : goal.invariant-loop-word
invariant-loop-word l = WordsWritten l.text l.initial.words l.words l.at l.written

abbrev pub decreases-loop-word : goal.decreases-loop-word
decreases-loop-word l = length l.text - l.at
