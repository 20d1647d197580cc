-- The paper's section 'What is computed', as far as the load of a core: ticks, jobs and load. A plan is a list of
-- choices; tasks, cores and levels, numbered from 1 in the paper, are counted from 0 here.
use Rattle.std.specs.Prelude.{ℕ, pred, ◌+◌, ◌-◌, ◌*◌, ◌/◌, ◌%◌, Bool, cond, not, ◌&&◌, List, eqb, get_or}
use Rattle.laws.specs.Sums.{sum}
use Rattle.instance.specs.Node.{Problem, level_count, task_count, level_at, task_at, span}

-- "A plan is one choice word per task: 0 refused, else (core − 1) × H + level"
abbrev pub choice_at : List ℕ → ℕ → ℕ
choice_at plan i = get_or plan i 0

abbrev pub is_refused : List ℕ → ℕ → Bool
is_refused plan i = eqb (choice_at plan i) 0

abbrev pub core_of : Problem → List ℕ → ℕ → ℕ
core_of p plan i = pred (choice_at plan i) / level_count p

abbrev pub level_of : Problem → List ℕ → ℕ → ℕ
level_of p plan i = pred (choice_at plan i) % level_count p

-- whether the plan keeps task i on core k
unfoldable pub keeps : Problem → List ℕ → ℕ → ℕ → Bool
keeps p plan k i = not (is_refused plan i) && eqb (core_of p plan i) k

-- "Ticks of a job: c divided by s, rounded up.", and (g) "plus the start ticks"
unfoldable pub ticks : (start cycles speed : ℕ) → ℕ
ticks start cycles speed = (cycles + (speed - 1)) / speed + start

-- the ticks of a job of task i, if the plan keeps it
unfoldable pub job_ticks : Problem → List ℕ → ℕ → ℕ
job_ticks p plan i = ticks p.start (task_at p i).cycles (level_at p (level_of p plan i)).speed

-- the ticks of a job of task i on core k: none where the plan does not keep it there
unfoldable pub ticks_on : Problem → List ℕ → ℕ → ℕ → ℕ
ticks_on p plan k i = cond (keeps p plan k i) (job_ticks p plan i) 0

-- "Jobs in a span: L / p."
unfoldable pub jobs : Problem → ℕ → ℕ
jobs p i = span p / (task_at p i).period

-- "its kept tasks' jobs × ticks": what task i asks of core k over a span
unfoldable pub load_on : Problem → List ℕ → ℕ → ℕ → ℕ
load_on p plan k i = jobs p i * ticks_on p plan k i

unfoldable pub core_load : Problem → List ℕ → ℕ → ℕ
core_load p plan k = sum (load_on p plan k) (task_count p)
