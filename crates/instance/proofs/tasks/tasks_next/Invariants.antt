-- `tasks::tasks_next` meets its contract. The loop's invariant: so many tasks are taken, of this span, and the others follow.
use Rattle.instance.specs.Sections.{TasksSoFar}
use Rattle.instance.proofs.tasks.tasks_next.Given as goal

abbrev pub invariant-loop-i : goal.invariant-loop-i
invariant-loop-i l = TasksSoFar l.count l.initial.words l.words l.array l.span l.i
