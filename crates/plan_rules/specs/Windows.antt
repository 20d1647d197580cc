-- When the jobs of a task are released, and when they are due.
use Rattle.std.specs.Prelude.{ℕ, ◌+◌, ◌*◌}
use Rattle.instance.specs.Node.{Problem, task_at}
use Rattle.instance.specs.declared.Task.{Task}

-- (c) "The due tick is release plus deadline everywhere": from release to due tick, the relative deadline
abbrev pub window : Task → ℕ
window t = t.deadline

abbrev pub release_of : Problem → ℕ → ℕ → ℕ
release_of p i j = j * (task_at p i).period

-- the tick "which demands 2 and 3 call its deadline": the absolute one
abbrev pub due_of : Problem → ℕ → ℕ → ℕ
due_of p i j = release_of p i j + window (task_at p i)
