-- `levels::levels_next` meets its contract. The loop's invariant: so many levels are taken, and the others follow.
use Rattle.instance.specs.Sections.{LevelsSoFar}
use Rattle.instance.proofs.levels.levels_next.Given as goal

abbrev pub invariant-loop-i : goal.invariant-loop-i
invariant-loop-i l = LevelsSoFar l.count l.initial.words l.words l.array l.before l.i
