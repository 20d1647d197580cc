use Rattle.std.proofs.Common.{arith}
use Rattle.lagrangian.specs.PricedLevelLaws.{before_any_level}
use Rattle.lagrangian.proofs.cores.TimedCore.cheapest_level.Goals as goal

pub loop-level-init : goal.loop-level-init
loop-level-init c = before_any_level

pub returns : goal.returns
returns c =
    let inv = c.loop-level.invariant in
    record { low = inv.low; is_level = inv.is_level; least = λ m l. inv.least m (omega (arith, c.loop-level-test.false)) }
