use Rattle.std.proofs.Common.{arith}
use Rattle.lagrangian.specs.PriceLaws.{raised_within_budget}
use Rattle.lagrangian.proofs.cores.TimedCore.with_tick.Goals as goal

pub returns : goal.returns
returns c =
    let core = c.args.self.now in
    raised_within_budget core.ready.timed_items (omega arith) c.jobs_by-jobs.ensures c.raised_prices.ensures c.requires (omega (arith, c.if-budget-gt-MOST_BUDGET.false))
