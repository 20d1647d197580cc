use Prim.Native.Nat.{ℕ, pred, ◌*◌, ◌/◌, ◌≤◌}
use mathlib.Core.Path.{◌≡◌, ap, ◌∙◌}
use native.Mathlib.Nat.{div-mul-le_self}
use native.Mathlib.Omega.{arith}
use Rattle.checks.specs.HeldJobs.{kept_task_is_served_if_its_jobs_are, refused_task_is_served}
use Rattle.checks.proofs.jobs.is_served.Goals as goal
use Rattle.checks.proofs.jobs.is_served.Goals.{After-core_of, After-jobs_in-jobs}

pub returns-then-choice-eq0 : goal.returns-then-choice-eq0
returns-then-choice-eq0 c = refused_task_is_served _ _ _ _ _ _ _ _ c.if-choice-eq0.true

row_begins : (c : goal.After-core_of) → let a = c.args in c.core_of.result * a.span ≡ pred a.choice / a.levels * a.span
row_begins c = ap (λ (k : ℕ). k * c.args.span) c.core_of.ensures

pub overflow_mul-from : goal.overflow_mul-from
overflow_mul-from c = omega (arith, row_begins (goal.at.overflow_mul-from c).After-core_of, c.requires.span_in_bounds)

jobs_within : (c : goal.After-jobs_in-jobs) → let a = c.args in c.jobs_in-jobs.result * a.task.period ≤ a.span
jobs_within c = rw c.jobs_in-jobs.ensures (div-mul-le_self _ _)

pub jobs_served-requires : goal.jobs_served-requires
jobs_served-requires c = let start = c in
    record { window_le_period = rw c.window_of-due.ensures start.requires.task_bound; period_in_bounds = omega (arith, row_begins (goal.at.jobs_served-requires c).After-core_of, start.requires.span_in_bounds, jobs_within (goal.at.jobs_served-requires c).After-jobs_in-jobs) }

pub returns : goal.returns
returns c = c.jobs_served.ensures
    ∙ kept_task_is_served_if_its_jobs_are _ _ _ _ _ _ _ _ c.if-choice-eq0.false _ _ _ (row_begins (goal.at.returns c).After-core_of) c.jobs_in-jobs.ensures c.window_of-due.ensures
