-- `deadlines::each_deadline_next` meets its contract. The loop's invariant: so many tasks have their deadlines.
use Rattle.instance.specs.Sections.{DeadlinesSoFar}
use Rattle.instance.proofs.deadlines.each_deadline_next.Given as goal

abbrev pub invariant-loop-task : goal.invariant-loop-task
invariant-loop-task l = DeadlinesSoFar l.initial.words l.words l.initial.tasks l.tasks l.task-index
