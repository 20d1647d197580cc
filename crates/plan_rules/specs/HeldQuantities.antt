-- The quantities of a plan, from the fields of the struct that holds the problem.
use Rattle.std.specs.Prelude.{ℕ, pred, ◌/◌, ◌%◌, ◌<◌, ◌≤◌, ◌≡◌, ◌&&◌, List, get_or}
use Rattle.std.proofs.Math.Path.{ap, ap₂}
use Rattle.std.proofs.Common.{◌∙◌, mod-lt, arith}
use Rattle.std.proofs.Math.Bool.{not}
use Rattle.std.proofs.Math.Dec.{eqb}
use Rattle.instance.specs.Held.{problem_in, Sound, held_level, held_levelcount, held_span, held_task}
use Rattle.ranges.specs.Limits.{most_cycles, most_levels, most_start_ticks}
use Rattle.instance.specs.Node.{level_count, level_at, task_at, task_count, no_level, no_task}
use Rattle.instance.specs.declared.Instance.{Instance}
use Rattle.instance.specs.declared.Level.{Level}
use Rattle.instance.specs.declared.Task.{Task}
use Rattle.plan_rules.specs.Quantities.{choice_at, keeps, ticks, job_ticks, jobs}

module _ (inst : Instance) (s : Sound inst) where
  pub level_count_above_zero : 0 < inst.levelcount
  level_count_above_zero = omega (arith, held_levelcount inst s, s.valid.level_count_bound.at_least)

  pub level_count_at_most : inst.levelcount ≤ most_levels
  level_count_at_most = omega (arith, held_levelcount inst s, s.valid.level_count_bound.at_most)

  -- the level that a choice names, as the struct's arrays have it
  pub held_level_of : (choice l : ℕ) → l ≡ pred choice % inst.levelcount →
      get_or inst.levels l no_level ≡ level_at (problem_in inst) (pred choice % level_count (problem_in inst))
  held_level_of choice l e =
      let same = e ∙ ap (λ (h : ℕ). pred choice % h) (held_levelcount inst s) in
      ap (λ (n : ℕ). get_or inst.levels n no_level) same ∙ held_level inst s _ (mod-lt (pred choice) s.valid.level_count_bound.at_least)

  pub level_below : (x l : ℕ) → l ≡ x % inst.levelcount → l < most_levels
  level_below x l e = omega (arith, mod-lt x level_count_above_zero, level_count_at_most)

  pub start_ticks_at_most : inst.start ≤ most_start_ticks
  unfolding problem_in
  start_ticks_at_most = s.valid.start

  module _ (i : ℕ) (h : i < task_count (problem_in inst)) where
    pub cycles_at_most : (get_or inst.tasks i no_task).cycles ≤ most_cycles
    cycles_at_most = rw (held_task inst s i h) (s.valid.task i h).cycles.at_most

    pub held_job_ticks : (plan : List ℕ) (l : ℕ) → l ≡ pred (choice_at plan i) % inst.levelcount →
        ticks inst.start (get_or inst.tasks i no_task).cycles (get_or inst.levels l no_level).speed ≡ job_ticks (problem_in inst) plan i
    unfolding job_ticks problem_in
    held_job_ticks plan l e =
        ap₂ (ticks inst.start) (ap (λ (t : Task). t.cycles) (held_task inst s i h))
        (ap (λ (v : Level). v.speed) (held_level_of (choice_at plan i) l e))

  pub held_keeps : (plan : List ℕ) (k i : ℕ) →
      (not (eqb (choice_at plan i) 0) && eqb (pred (choice_at plan i) / inst.levelcount) k) ≡ keeps (problem_in inst) plan k i
  unfolding keeps
  held_keeps plan k i =
      ap (λ (h : ℕ). not (eqb (choice_at plan i) 0) && eqb (pred (choice_at plan i) / h) k) (held_levelcount inst s)

  pub held_jobs : (i : ℕ) (task : Task) → task ≡ task_at (problem_in inst) i → inst.span / task.period ≡ jobs (problem_in inst) i
  unfolding jobs
  held_jobs i task e = ap₂ (λ (a b : ℕ). a / b) (held_span inst s) (ap (λ (t : Task). t.period) e)
