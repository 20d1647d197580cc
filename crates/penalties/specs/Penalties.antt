-- Document 02 (h), "How far one penalty can move the bill": problems that are alike but for penalties, and what it means that the
-- least cost rises by at most so much.
use Rattle.std.specs.Prelude.{ℕ, ◌+◌, ◌-◌, ◌*◌, ◌≤◌, ◌<◌, List, map, ◌↔◌, ◌≡◌, set, Result, Ok, Err}
use Rattle.std.proofs.Math.Option.{Option, none, some}
use Rattle.laws.specs.Sums.{sum}
use Rattle.refusals.specs.declared.Refusal.{Refusal}
use Rattle.instance.specs.Node.{Problem, task_count, task_at}
use Rattle.instance.specs.declared.Task.{Task}
use Rattle.refusals.specs.declared.Refusal.TheVariants.{NoPlan}
use Rattle.plan_rules.specs.Plans.{is_must}
use Rattle.plan_rules.specs.Quantities.{jobs}
use Rattle.prices.specs.Prices.{cost}
use Rattle.prices.specs.declared.amounts.Price.{Price}
use Rattle.drawings.specs.Drawings.{Drawing}
use Rattle.planner.specs.Planned.{NoDrawing}

abbrev pub with_penalty : ℕ → Task → Task
with_penalty x t = record { period = t.period; cycles = t.cycles; penalty = x; deadline = t.deadline }

abbrev pub with_tasks : Problem → List Task → Problem
with_tasks p tasks =
    record { weights = p.weights; cores = p.cores; idle = p.idle; start = p.start; levels = p.levels; tasks = tasks }

-- the problem with x as task i's penalty: with one x and with another these are problems "that differ in one task's penalty"
unfoldable pub repriced : Problem → ℕ → ℕ → Problem
repriced p i x = with_tasks p (set p.tasks i (with_penalty x (task_at p i)))

-- the problem with 0 as every task's penalty
unfoldable pub without_penalties : Problem → Problem
without_penalties p = with_tasks p (map (with_penalty 0) p.tasks)

-- Two problems that are alike but for penalties, and no penalty of the first is above that of the second.
pub record PenaltiesRaised (low high : Problem) : Type 0 where
  pub alike : without_penalties low ≡ without_penalties high
  pub none_lower : (i : ℕ) → i < task_count low → (task_at low i).penalty ≤ (task_at high i).penalty
  -- the same tasks may not be refused
  pub same_must : (i : ℕ) → i < task_count low → is_must low i ≡ is_must high i

-- "penalty weight × that task's jobs × the difference"
unfoldable pub rise : Problem → Problem → ℕ → ℕ
rise low high i = low.weights.penalty * jobs low i * ((task_at high i).penalty - (task_at low i).penalty)

unfoldable pub all_rises : Problem → Problem → ℕ
all_rises low high = sum (rise low high) (task_count low)

-- "no smaller, and larger by at most" so much
pub record RisesByAtMost (most low high : ℕ) : Type 0 where
  pub no_smaller : low ≤ high
  pub larger_by_at_most : high ≤ low + most

-- Of the best plans of two problems: "either both have no plan, or the higher penalty's least cost is no smaller, and larger by at
-- most" so much.
pub data PlansRise (low high : Problem) (most : ℕ) : Option (List ℕ) → Option (List ℕ) → Type 0 where
  no_plans : PlansRise low high most none none
  plans : (plan other : List ℕ) → RisesByAtMost most (cost low plan) (cost high other) → PlansRise low high most (some plan) (some other)

-- the same of two answers of planning
pub data AnswersRise (most : ℕ) : Result Price Refusal → Result Price Refusal → Type 0 where
  no_plans : AnswersRise most (Err NoPlan) (Err NoPlan)
  costs : (low high : Price) → RisesByAtMost most low.cost high.cost → AnswersRise most (Ok low) (Ok high)

-- a drawing than which none is cheaper
pub record CheapestDrawing (p : Problem) (plan table : List ℕ) : Type 0 where
  pub is_drawing : Drawing p plan table
  pub none_cheaper : (other slots : List ℕ) → Drawing p other slots → cost p plan ≤ cost p other

-- some drawing that costs at most so much
pub record DrawingWithin (p : Problem) (most : ℕ) : Type 0 where
  pub plan : List ℕ
  pub table : List ℕ
  pub is_drawing : Drawing p plan table
  pub within : cost p plan ≤ most

-- The same of anyone's drawings: no drawing of the second problem costs less than the cheapest of the first, and some drawing of it
-- costs at most so much more.
pub record DrawingsRise (low high : Problem) (most : ℕ) : Type 0 where
  pub both_or_neither : NoDrawing low ↔ NoDrawing high
  pub none_cheaper : (plan table other slots : List ℕ) → CheapestDrawing low plan table → Drawing high other slots →
      cost low plan ≤ cost high other
  pub one_within : (plan table : List ℕ) → CheapestDrawing low plan table → DrawingWithin high (cost low plan + most)
