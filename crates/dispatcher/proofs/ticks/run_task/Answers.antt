use mathlib.Core.Path.{◌≡◌}
use native.Mathlib.Nat.{pos_of_ne-zero}
use borrow.Author.Rules.{rules}
use lib.ListN.{length}
use Rattle.dispatcher.specs.PlaceUpdates.{none_runs, task_ran}
use Rattle.dispatcher.proofs.ticks.run_task.Goals as goal
use Rattle.dispatcher.proofs.ticks.run_task.Goals.{Start}

places : (c : goal.Start) → length c.args.left.now ≡ 12
places c = search rules

pub returns-then-task-ne0 : goal.returns-then-task-ne0
returns-then-task-ne0 c =
    task_ran c.args.left.now (places (goal.at.returns-then-task-ne0 c).Start) c.args.task (pos_of_ne-zero c.if-task-ne0.true) c.requires.task_le_most_tasks

pub returns-else-task-ne0 : goal.returns-else-task-ne0
returns-else-task-ne0 c = let start = c in rw c.if-task-ne0.false (none_runs start.args.left.now (places (goal.at.returns-else-task-ne0 c).Start))
