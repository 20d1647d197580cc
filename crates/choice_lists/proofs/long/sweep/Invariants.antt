-- `sweep` goes from load to load.
use Rattle.choice_lists.specs.Sweep.{Gathered}
use Rattle.choice_lists.proofs.long.sweep.Given as goal

abbrev pub invariant-loop-load : goal.invariant-loop-load
invariant-loop-load l = Gathered l.capacity l.from l.load l.spread l.initial.points l.points l.best l.to
