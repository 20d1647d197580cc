use Rattle.towhepamu.specs.Copies.{Copied}
use Rattle.towhepamu.proofs.choices.bytes_of_words.Given as goal

abbrev pub invariant-loop-i : goal.invariant-loop-i
invariant-loop-i l = Copied l.words l.initial.bytes l.bytes l.i
