-- The tasks that a plan keeps on one core, in columns.
use Rattle.std.specs.Prelude.{ℕ, suc, ◌-◌, ◌≤◌, ◌<◌, true, List, ◌≡◌, length, get_or}
use Rattle.ranges.specs.Limits.{most_tasks}
use Rattle.instance.specs.Node.{Problem, level_at, task_at}
use Rattle.plan_rules.specs.Quantities.{keeps, level_of, ticks_on}
use Rattle.plan_rules.specs.Windows.{window}
use Rattle.plan_rules.specs.declared.columns.KeptTasks.{KeptTasks}

-- room for every task
pub record Places (kept : KeptTasks) : Type 0 where
  pub of_numbers : length kept.numbers ≡ most_tasks
  pub of_periods : length kept.periods ≡ most_tasks
  pub of_windows : length kept.windows ≡ most_tasks
  pub of_ticks : length kept.ticks ≡ most_tasks
  pub of_powers : length kept.powers ≡ most_tasks

abbrev pub place_of : KeptTasks → ℕ → ℕ
place_of kept j = get_or kept.numbers j 0 - 1

-- what the columns hold of one task, which is among the first m
pub record HeldTask (p : Problem) (plan : List ℕ) (k m : ℕ) (number period its_window ticks power : ℕ) : Type 0 where
  pub above_0 : 0 < number
  pub at_most : number ≤ m
  pub is_kept : keeps p plan k (number - 1) ≡ true
  pub same_period : period ≡ (task_at p (number - 1)).period
  pub same_window : its_window ≡ window (task_at p (number - 1))
  pub same_ticks : ticks ≡ ticks_on p plan k (number - 1)
  pub same_power : power ≡ (level_at p (level_of p plan (number - 1))).power

abbrev pub HeldAt : Problem → List ℕ → ℕ → ℕ → KeptTasks → ℕ → Type 0
HeldAt p plan k m kept j =
    HeldTask p plan k m (get_or kept.numbers j 0) (get_or kept.periods j 0) (get_or kept.windows j 0) (get_or kept.ticks j 0)
    (get_or kept.powers j 0)

-- the columns hold those of the first m tasks that the plan keeps on core k, in ascending order
pub record KeptColumns (p : Problem) (plan : List ℕ) (k m : ℕ) (kept : KeptTasks) : Type 0 where
  pub places : Places kept
  pub no_more : kept.count ≤ m
  pub ascending : (i j : ℕ) → i < j → j < kept.count → get_or kept.numbers i 0 < get_or kept.numbers j 0
  pub held : (j : ℕ) → j < kept.count → HeldAt p plan k m kept j
  pub every_kept : (i : ℕ) → i < m → keeps p plan k i ≡ true → (j : ℕ) × (j < kept.count) × (get_or kept.numbers j 0 ≡ suc i)
