-- `append_level` goes from point to point.
use Rattle.choice_lists.specs.Appended.{LevelAppended}
use Rattle.choice_lists.proofs.short.append_level.Given as goal

abbrev pub invariant-loop-p : goal.invariant-loop-p
invariant-loop-p l = LevelAppended l.capacity l.choice l.fn.part.from l.p l.start l.initial.points l.points l.end
