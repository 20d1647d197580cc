use Rattle.towhepamu.specs.Copies.{Copied}
use Rattle.towhepamu.proofs.choices.words_of_bytes.Given as goal

abbrev pub invariant-loop-i : goal.invariant-loop-i
invariant-loop-i l = Copied l.bytes l.initial.words l.words l.i
