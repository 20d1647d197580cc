use Prim.Native.Nat.{◌+◌, ◌*◌, ◌≤◌}
use mathlib.Core.Bool.{true}
use mathlib.Core.Logic.{◌↔◌}
use mathlib.Core.Path.{◌≡◌, sym}
use native.Mathlib.Omega.{arith}
use lib.ListN.{length}
use borrow.Author.Count.{below_none, below_more}
use Rattle.laws.specs.SearchFacts.{every_iff}
use Rattle.laws.specs.Truth.{not_true_is_false}
use Rattle.job_counts.specs.declared.CountKind.TheVariants.{Right}
use Rattle.checks.specs.HeldJobs.{job_served_at, jobs_served, job_within, right_in_table}
use Rattle.checks.proofs.jobs.jobs_served.Goals as goal
use Rattle.checks.proofs.jobs.jobs_served.Goals.{After-count_job-counted, In-loop-j}

job_fits : (c : goal.In-loop-j) → let a = c.args in (a.from + c.loop-j.j * a.period) + a.period ≤ length a.table.now
job_fits c = let start = c in
    job_within start.args.table.now start.args.from start.args.number start.args.period start.args.window _ _ start.requires.period_in_bounds c.loop-j-test.true

tested : (c : goal.After-count_job-counted) → let a = c.args in
    (c.count_job-counted.result.kind ≡ Right) ↔ (job_served_at a.table.now a.from a.number a.period a.window a.ticks c.loop-j.j ≡ true)
tested c =
    let start = c in
    let fits = job_within start.args.table.now start.args.from start.args.number start.args.period start.args.window _ _ start.requires.period_in_bounds c.loop-j-test.true in
    rw c.count_job-counted.ensures.value (right_in_table start.args.table.now start.args.from start.args.number _ _ _ _ start.requires.window_le_period fits)

pub loop-j-init : goal.loop-j-init
loop-j-init c = (omega arith, below_none _)

pub overflow_mul-release : goal.overflow_mul-release
overflow_mul-release c = omega (arith, job_fits (goal.at.overflow_mul-release c).In-loop-j)

pub overflow_add-release : goal.overflow_add-release
overflow_add-release c = omega (arith, job_fits (goal.at.overflow_add-release c).In-loop-j)

pub overflow_add-next : goal.overflow_add-next
overflow_add-next c = omega (arith, job_fits (goal.at.overflow_add-next c).In-loop-j)

pub returns-in_default : goal.returns-in_default
unfolding jobs_served
returns-in_default c = sym (not_true_is_false _ (λ served.
    let right = (tested (goal.at.returns-in_default c).After-count_job-counted).1 ((every_iff _ _).0 served _ c.loop-j-test.true) in
    absurd (c.in_default.not-Right right)))

pub loop-j-preserved : goal.loop-j-preserved
loop-j-preserved c = (
  omega (arith, c.loop-j-test.true),
  below_more _ _ c.loop-j.invariant.1 ((tested (goal.at.loop-j-preserved c).After-count_job-counted).0 c.in-Right.is),
)

pub returns : goal.returns
unfolding jobs_served
returns c = sym ((every_iff _ _).1 (λ x l. c.loop-j.invariant.1 x (omega (arith, c.loop-j-test.false))))
