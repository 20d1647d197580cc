use Rattle.std.proofs.Common.{arith}
use Rattle.lagrangian.specs.PriceLaws.{none_raised_yet, one_more_raised}
use Rattle.lagrangian.proofs.prices.raised_prices.Goals as goal

pub loop-i-init : goal.loop-i-init
loop-i-init c = none_raised_yet c.requires.low_prices

pub loop-i-preserved : goal.loop-i-preserved
loop-i-preserved c =
    let its = c.raised_price.ensures in
    one_more_raised _ c.loop-i.invariant (omega (arith, c.loop-i-test.true, c.requires.le_most_items.0)) its.0 its.1

pub returns : goal.returns
returns c =
    let inv = c.loop-i.invariant in
    record { low = inv.low; at_most = λ j l. inv.at_most j (omega (arith, c.loop-i-test.false)) }
