-- The problem that an instance struct holds, for contracts of functions that take the struct.
use Rattle.std.specs.Prelude.{ℕ, ◌<◌, ◌≤◌, ◌≡◌, refl, take, get_or}
use Rattle.std.proofs.Math.Path.{sym, ap}
use Rattle.std.proofs.Common.{get_or-take, arith}
use Rattle.laws.specs.PaddedLaws.{take_padded}
use Rattle.ranges.specs.Limits.{most_levels, most_tasks}
use Rattle.instance.specs.Node.{Problem, level_count, task_count, level_at, task_at, no_level, no_task, span, stored}
use Rattle.instance.specs.Valid.{InRange, Valid}
use Rattle.instance.specs.declared.Instance.{Instance}

unfoldable pub problem_in : Instance → Problem
problem_in inst =
    record {
      weights = inst.weights;
      cores = inst.cores;
      idle = inst.idle;
      start = inst.start;
      levels = take inst.levelcount inst.levels;
      tasks = take inst.taskcount inst.tasks;
    }

-- an instance as reading without refusal leaves it: it holds a valid problem, and nothing beside it
pub record Sound (inst : Instance) : Type 0 where
  pub valid : Valid (problem_in inst)
  pub is_stored : inst ≡ stored (problem_in inst)

pub problem_in_stored : (p : Problem) → level_count p ≤ most_levels → task_count p ≤ most_tasks → problem_in (stored p) ≡ p
unfolding problem_in stored
problem_in_stored p hl ht = λ i.
    record {
      weights = p.weights;
      cores = p.cores;
      idle = p.idle;
      start = p.start;
      levels = take_padded most_levels no_level p.levels hl i;
      tasks = take_padded most_tasks no_task p.tasks ht i;
    }

pub stored_is_sound : (p : Problem) → Valid p → Sound (stored p)
stored_is_sound p v =
    let e = problem_in_stored p v.level_count_bound.at_most v.task_count_bound in
    record { valid = rw e v; is_stored = ap stored (sym e) }

-- what the struct's fields say of the problem that it holds
module _ (inst : Instance) (s : Sound inst) where
  pub held_span : inst.span ≡ span (problem_in inst)
  unfolding stored
  held_span = ap (λ (i : Instance). i.span) s.is_stored

  pub held_taskcount : inst.taskcount ≡ task_count (problem_in inst)
  unfolding stored
  held_taskcount = ap (λ (i : Instance). i.taskcount) s.is_stored

  pub held_levelcount : inst.levelcount ≡ level_count (problem_in inst)
  unfolding stored
  held_levelcount = ap (λ (i : Instance). i.levelcount) s.is_stored

  pub held_task : (i : ℕ) → i < task_count (problem_in inst) → get_or inst.tasks i no_task ≡ task_at (problem_in inst) i
  unfolding problem_in
  held_task i h = sym (get_or-take inst.taskcount inst.tasks i no_task (omega (arith, held_taskcount)))

  -- (c) "each deadline from 1 to the task's period"
  pub held_deadline : (i : ℕ) → i < task_count (problem_in inst) →
      InRange 1 (get_or inst.tasks i no_task).period (get_or inst.tasks i no_task).deadline
  held_deadline i h = rw (held_task i h) (s.valid.task i h).deadline

  pub held_level : (l : ℕ) → l < level_count (problem_in inst) → get_or inst.levels l no_level ≡ level_at (problem_in inst) l
  unfolding problem_in
  held_level l h = sym (get_or-take inst.levelcount inst.levels l no_level (omega (arith, held_levelcount)))

-- the struct has the problem's weights, cores, idle power and start ticks, as many levels and tasks, each of these, and its span
pub record HoldsProblem (p : Problem) (inst : Instance) : Type 0 where
  pub same_weights : inst.weights ≡ p.weights
  pub same_cores : inst.cores ≡ p.cores
  pub same_idle : inst.idle ≡ p.idle
  pub same_start : inst.start ≡ p.start
  pub same_level_count : inst.levelcount ≡ level_count p
  pub same_levels : (l : ℕ) → l < level_count p → get_or inst.levels l no_level ≡ level_at p l
  pub same_task_count : inst.taskcount ≡ task_count p
  pub same_tasks : (i : ℕ) → i < task_count p → get_or inst.tasks i no_task ≡ task_at p i
  pub same_span : inst.span ≡ span p

sound_holds_problem : (inst : Instance) → Sound inst → HoldsProblem (problem_in inst) inst
unfolding problem_in
sound_holds_problem inst s =
    record {
      same_weights = refl;
      same_cores = refl;
      same_idle = refl;
      same_start = refl;
      same_level_count = held_levelcount inst s;
      same_levels = held_level inst s;
      same_task_count = held_taskcount inst s;
      same_tasks = held_task inst s;
      same_span = held_span inst s;
    }

pub stored_holds_problem : (p : Problem) → Valid p → HoldsProblem p (stored p)
stored_holds_problem p v =
    rw (problem_in_stored p v.level_count_bound.at_most v.task_count_bound) at (sound_holds_problem (stored p) (stored_is_sound p v))
