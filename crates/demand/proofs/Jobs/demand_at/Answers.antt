use Prim.Native.Nat.{ℕ, ◌+◌, ◌*◌, ◌≤◌}
use mathlib.Core.Path.{◌≡◌, refl, ap, ap₂, ◌∙◌}
use native.Mathlib.Numerals.{add-one}
use native.Mathlib.Omega.{arith}
use lib.ListN.{length, get_or}
use Rattle.laws.specs.Sums.{sum}
use Rattle.ranges.specs.Limits.{most_span, most_tasks, most_word}
use Rattle.dispatch.specs.Columns.{column_tasks}
use Rattle.edf.specs.Demand.{demand_at, jobs_due, ticks_due}
use Rattle.demand.specs.ColumnDemandLaws.{demand_so_far_at_most}
use Rattle.demand.proofs.Jobs.demand_at.Goals as goal
use Rattle.demand.proofs.Jobs.demand_at.Goals.{After-jobs_due-jobs}

its_ticks : (c : goal.After-jobs_due-jobs) →
    let args = c.args in
    let i = c.loop-i.i in
    get_or args.self.now.ticks.now i 0 * c.jobs_due-jobs.result
    ≡ ticks_due (column_tasks args.self.now.periods.now args.self.now.windows.now args.self.now.ticks.now) args.tick i
unfolding jobs_due
its_ticks c =
    let args = c.args in
    let i = c.loop-i.i in
    ap (λ (jobs : ℕ). get_or args.self.now.ticks.now i 0 * jobs) c.jobs_due-jobs.ensures

-- what is added up so far, and the next term
so_far : (c : goal.After-jobs_due-jobs) →
    let args = c.args in
    let its = ticks_due (column_tasks args.self.now.periods.now args.self.now.windows.now args.self.now.ticks.now) args.tick in
    let i = c.loop-i.i in
    sum its i + its i ≤ most_tasks * (most_word * most_span)
so_far c =
    let start = c in
    demand_so_far_at_most start.args.self.now.periods.now start.args.self.now.windows.now start.args.self.now.ticks.now start.args.self.now.well_formed
    start.args.self.now.words start.args.tick start.requires _
    c.loop-i-test.true

pub loop-i-init : goal.loop-i-init
unfolding sum
loop-i-init c = refl

pub overflow_mul-due : goal.overflow_mul-due
overflow_mul-due c = omega (arith, its_ticks (goal.at.overflow_mul-due c).After-jobs_due-jobs, so_far (goal.at.overflow_mul-due c).After-jobs_due-jobs)

pub overflow_add-due : goal.overflow_add-due
overflow_add-due c = omega (arith, its_ticks (goal.at.overflow_add-due c).After-jobs_due-jobs, so_far (goal.at.overflow_add-due c).After-jobs_due-jobs, c.loop-i.invariant)

pub loop-i-preserved : goal.loop-i-preserved
unfolding sum
loop-i-preserved c =
    rw add-one (ap₂ ◌+◌ c.loop-i.invariant (its_ticks (goal.at.loop-i-preserved c).After-jobs_due-jobs))

pub returns : goal.returns
unfolding demand_at
returns c =
    let args = c.args in
    let its = ticks_due (column_tasks args.self.now.periods.now args.self.now.windows.now args.self.now.ticks.now) args.tick in
    let all : c.loop-i.i ≡ length args.self.now.ticks.now = omega arith in
    c.loop-i.invariant ∙ ap (sum its) all
