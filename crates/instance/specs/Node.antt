-- The paper's section 'The node and its tasks': a problem instance as mathematics has it, and as the code's struct
-- holds it.
use Rattle.std.specs.Prelude.{ℕ, List, [], ◌∷◌, length, get_or}
use Rattle.laws.specs.Lists.{padded}
use Rattle.laws.specs.Multiples.{lcm}
use Rattle.ranges.specs.Limits.{most_levels, most_tasks}
use Rattle.instance.specs.declared.Instance.{Instance}
use Rattle.instance.specs.declared.Level.{Level}
use Rattle.instance.specs.declared.Task.{Task}
use Rattle.instance.specs.declared.Weights.{Weights}

-- "A node has M equal cores and H clock levels." The tasks are numbered from 1 in the papers and from 0 here.
pub record Problem : Type 0 where
  pub weights : Weights
  pub cores : ℕ
  -- idle power, of document 02 (a): what an awake core draws in an idle tick
  pub idle : ℕ
  -- start ticks, of document 02 (g): "Each job begins by setting the clock."
  pub start : ℕ
  pub levels : List Level
  pub tasks : List Task

abbrev pub level_count : Problem → ℕ
level_count p = length p.levels

abbrev pub task_count : Problem → ℕ
task_count p = length p.tasks

abbrev pub no_level : Level
no_level = record { speed = 0; power = 0 }

abbrev pub no_task : Task
no_task = record { period = 0; cycles = 0; penalty = 0; deadline = 0 }

abbrev pub level_at : Problem → ℕ → Level
level_at p l = get_or p.levels l no_level

abbrev pub task_at : Problem → ℕ → Task
task_at p i = get_or p.tasks i no_task

-- "Span L: least common multiple of the periods, 1 with no task", elsewhere called the hyperperiod: of `so_far` and the
-- tasks' periods
unfoldable pub span_from : ℕ → List Task → ℕ
span_from so_far [] = so_far
span_from so_far (t ∷ ts) = span_from (lcm so_far t.period) ts

unfoldable pub span : Problem → ℕ
span p = span_from 1 p.tasks

-- "holds at most 8 levels and at most 12 tasks": what the arrays do not need is zero
unfoldable pub stored : Problem → Instance
stored p =
    record {
      weights = p.weights;
      cores = p.cores;
      idle = p.idle;
      start = p.start;
      levelcount = level_count p;
      levels = padded most_levels no_level p.levels;
      taskcount = task_count p;
      tasks = padded most_tasks no_task p.tasks;
      span = span p;
    }
