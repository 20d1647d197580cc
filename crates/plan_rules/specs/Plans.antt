-- Which plans may be given: the refusals 7 and 8, in that order.
use Rattle.std.specs.Prelude.{ℕ, suc, min, ◌*◌, Bool, cond, not, ◌&&◌, ◌||◌, List, ltb, eqb, length, Err}
use Rattle.laws.specs.Search.{first}
use Rattle.ranges.specs.Limits.{may_not_be_refused}
use Rattle.instance.specs.Node.{Problem, level_count, task_count, task_at, span}
use Rattle.refusals.specs.Refusals.{◌and_then◌, Verdict, accepted}
use Rattle.refusals.specs.declared.Refusal.TheVariants.{GivenPlan, CoreOverloaded}
use Rattle.edf.specs.Demand.{meets_demand}
use Rattle.plan_rules.specs.CoreOfPlan.{core_tasks}
use Rattle.plan_rules.specs.Quantities.{choice_at, is_refused}

-- "a task that may not be refused"
unfoldable pub is_must : Problem → ℕ → Bool
is_must p i = eqb (task_at p i).penalty may_not_be_refused

-- the largest choice, M × H
abbrev pub most_choice : Problem → ℕ
most_choice p = p.cores * level_count p

-- "a choice above M × H, or 0 for a task that may not be refused"
unfoldable pub bad_choice : Problem → List ℕ → ℕ → Bool
bad_choice p plan i = ltb (most_choice p) (choice_at plan i) || (is_refused plan i && is_must p i)

-- 7: "another length than the tasks": the smaller length; else the first task with a bad choice
unfoldable pub choices_pass : Problem → List ℕ → Verdict
choices_pass p plan =
    let n = task_count p in
    let i = first (bad_choice p plan) n in
    cond (eqb (length plan) n)
    (cond (ltb i n) (Err (GivenPlan i)) accepted)
    (Err (GivenPlan (min (length plan) n)))

-- (c) "A core fits exactly when some row gives each job its ticks in time": that is a theorem (`drawings/specs/FitLaws`). The test
-- is of what is due by each tick of the span.
unfoldable pub fits : Problem → List ℕ → ℕ → Bool
fits p plan k = meets_demand (core_tasks p plan k) (span p)

-- 8: the number of the lowest core that does not fit
unfoldable pub cores_fit : Problem → List ℕ → Verdict
cores_fit p plan =
    let k = first (λ k. not (fits p plan k)) p.cores in
    cond (ltb k p.cores) (Err (CoreOverloaded (suc k))) accepted

-- the plans that "refuse no task that may not be refused and whose cores all fit"
unfoldable pub plan_passes : Problem → List ℕ → Verdict
plan_passes p plan = choices_pass p plan and_then cores_fit p plan
