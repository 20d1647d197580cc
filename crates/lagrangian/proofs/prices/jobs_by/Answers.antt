use Rattle.std.proofs.Common.{arith}
use Rattle.lagrangian.specs.PriceLaws.{no_jobs_yet, jobs_of_one_more, jobs_at_most}
use Rattle.lagrangian.specs.TimedCores.{timing_at}
use Rattle.lagrangian.proofs.prices.jobs_by.Goals as goal

pub loop-i-init : goal.loop-i-init
loop-i-init c = no_jobs_yet

pub jobs_due-requires : goal.jobs_due-requires
unfolding timing_at
jobs_due-requires c =
    let ready = c.requires.timed_items in
    let below = c.loop-i-test.true in
    let its = ready.item _ below in
    let period = its.period_at_most in
    let whole = its.window_above_0 in
    let inside = its.window_within_period in
    record { period_nonzero = (omega (arith, whole, inside), inside); period_bound = omega (arith, period, ready.span_at_most, c.requires.tick_le_span) }

pub loop-i-preserved : goal.loop-i-preserved
unfolding timing_at
loop-i-preserved c =
    let ready = c.requires.timed_items in
    let below = c.loop-i-test.true in
    let jobs = c.jobs_due.ensures in
    jobs_of_one_more _ c.loop-i.invariant (omega (arith, below, ready.few_items)) jobs (omega (arith, jobs, jobs_at_most ready _ c.args.tick below, ready.span_at_most, c.requires.tick_le_span))

pub returns : goal.returns
returns c =
    let inv = c.loop-i.invariant in
    record { few = inv.few; at = λ j l. inv.at j (omega (arith, c.loop-i-test.false)) }
