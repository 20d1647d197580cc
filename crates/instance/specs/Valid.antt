-- Document 01's section 'Site file', with (a), (c) and (g) of document 02, as what holds of an instance, and the words that the
-- instance is written in. Nothing here reads: that what is read is valid and written so, and that whatever is valid and
-- written so is read, are laws.
use Rattle.std.specs.Prelude.{ℕ, suc, ◌≤◌, ◌<◌, ◌≡◌, ◌⊎◌, List, [], ◌∷◌, ◌++◌, length, get_or}
use Rattle.ranges.specs.Limits
use Rattle.instance.specs.Node.{Problem, level_count, task_count, level_at, task_at, no_task, span}
use Rattle.instance.specs.declared.Level.{Level}
use Rattle.instance.specs.declared.Task.{Task}

pub record InRange (low high w : ℕ) : Type 0 where
  pub at_least : low ≤ w
  pub at_most : w ≤ high

-- "speed 1 to 65,535, then power 1 to 65,535"
pub record ValidLevel (l : Level) : Type 0 where
  pub speed : InRange 1 Limits.most_speed l.speed
  pub power : InRange 1 Limits.most_power l.power

-- "period 1 to 4,096; cycles 1 to 100,000,000; penalty 1 to 1,000,000, or 4,294,967,295 for a task that may not be
-- refused"
pub record ValidTask (t : Task) : Type 0 where
  pub period : InRange 1 Limits.most_period t.period
  pub cycles : InRange 1 Limits.most_cycles t.cycles
  pub penalty : InRange 1 Limits.most_penalty t.penalty ⊎ (t.penalty ≡ Limits.may_not_be_refused)
  -- (c) "each deadline from 1 to the task's period"
  pub deadline : InRange 1 t.period t.deadline

pub record Valid (p : Problem) : Type 0 where
  -- "energy weight 1 to 1,000; penalty weight 1 to 1,000; M 1 to 4"
  pub energy_weight : InRange 1 Limits.most_weight p.weights.energy
  pub penalty_weight : InRange 1 Limits.most_weight p.weights.penalty
  pub cores : InRange 1 Limits.most_cores p.cores
  -- (a) "idle power, 0 to 65,535"
  pub idle : p.idle ≤ Limits.most_idle_power
  -- (g) "start ticks, 0 to 1,000"
  pub start : p.start ≤ Limits.most_start_ticks
  -- "levels | 1 to 8"
  pub level_count_bound : InRange 1 Limits.most_levels (level_count p)
  pub level : (l : ℕ) → l < level_count p → ValidLevel (level_at p l)
  -- "both rise strictly from level to level"
  pub speed_rises : (l : ℕ) → suc l < level_count p → (level_at p l).speed < (level_at p (suc l)).speed
  pub power_rises : (l : ℕ) → suc l < level_count p → (level_at p l).power < (level_at p (suc l)).power
  -- "tasks | 0 to 12"
  pub task_count_bound : task_count p ≤ Limits.most_tasks
  pub task : (i : ℕ) → i < task_count p → ValidTask (task_at p i)
  -- "Span L: .. at most 4,096"
  pub span_at_most : span p ≤ Limits.most_span

unfoldable pub words_of_levels : List Level → List ℕ
words_of_levels [] = []
words_of_levels (l ∷ ls) = l.speed ∷ l.power ∷ words_of_levels ls

unfoldable pub words_of_tasks : List Task → List ℕ
words_of_tasks [] = []
words_of_tasks (t ∷ ts) = t.period ∷ t.cycles ∷ t.penalty ∷ words_of_tasks ts

-- settings | 3, 4 or 5. "A count of 3 means 0", and so does a count of 4 for start ticks: an instance without either is written in
-- three ways, one without start ticks in two.
pub data WritesSettings (p : Problem) : List ℕ → Type 0 where
  three : p.idle ≡ 0 → p.start ≡ 0 →
      WritesSettings p (Limits.settings_without_idle ∷ p.weights.energy ∷ p.weights.penalty ∷ p.cores ∷ [])
  four : p.start ≡ 0 →
      WritesSettings p (Limits.settings_with_idle ∷ p.weights.energy ∷ p.weights.penalty ∷ p.cores ∷ p.idle ∷ [])
  five : WritesSettings p
      (Limits.settings_with_start ∷ p.weights.energy ∷ p.weights.penalty ∷ p.cores ∷ p.idle ∷ p.start ∷ [])

unfoldable pub words_of_deadlines : List Task → List ℕ
words_of_deadlines [] = []
words_of_deadlines (t ∷ ts) = t.deadline ∷ words_of_deadlines ts

-- "deadline equals period"
pub record DueAtPeriodEnd (ts : List Task) : Type 0 where
  pub each : (i : ℕ) → i < length ts → (get_or ts i no_task).deadline ≡ (get_or ts i no_task).period

-- (c) "A list that ends after the tasks, or a count of 0, means deadline equals period": such tasks are written in three
-- ways, any others in one.
pub data WritesDeadlines (ts : List Task) : List ℕ → Type 0 where
  ended : DueAtPeriodEnd ts → WritesDeadlines ts []
  counted_0 : DueAtPeriodEnd ts → WritesDeadlines ts (0 ∷ [])
  each_task : WritesDeadlines ts (length ts ∷ words_of_deadlines ts)

-- Which lists of words write an instance. "Its sections stand in a fixed order, each after its count."
pub data Writes (p : Problem) : List ℕ → Type 0 where
  sections : {settings deadlines : List ℕ} → WritesSettings p settings → WritesDeadlines p.tasks deadlines →
      Writes p (settings ++ level_count p ∷ words_of_levels p.levels ++ task_count p ∷ words_of_tasks p.tasks ++ deadlines)
