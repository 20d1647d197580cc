use Rattle.std.proofs.Common.{le_trans}
use Rattle.lagrangian.specs.TimedCores.{timing_at}
use Rattle.lagrangian.proofs.cores.TimedCore.exceeded_tick.Goals as goal

pub add_jobs-requires : goal.add_jobs-requires
unfolding timing_at
add_jobs-requires c =
    let ready = c.args.self.now.ready.timed_items in
    let its = ready.item _ c.loop-i-test.true in
    record { period_above_0 = le_trans its.window_above_0 its.window_within_period; short_span = ready.span_at_most }
