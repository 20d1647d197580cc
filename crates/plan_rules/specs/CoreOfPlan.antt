-- What one core runs by a plan, as rows and the scheduling theorems have it.
use Rattle.std.specs.Prelude.{ℕ, List}
use Rattle.dispatch.specs.Rows.{CoreTasks}
use Rattle.instance.specs.Node.{Problem, task_count, task_at}
use Rattle.plan_rules.specs.Quantities.{ticks_on}
use Rattle.plan_rules.specs.Windows.{window}

unfoldable pub core_tasks : Problem → List ℕ → ℕ → CoreTasks
core_tasks p plan k =
    record {
      size = task_count p;
      period = λ i. (task_at p i).period;
      window = λ i. window (task_at p i);
      ticks = ticks_on p plan k;
    }
