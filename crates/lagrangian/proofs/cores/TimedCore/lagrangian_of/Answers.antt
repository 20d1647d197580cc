use Rattle.std.proofs.Common.{refl, arith}
use Rattle.lagrangian.specs.PricedLevelLaws.{no_item_yet, least_of_one_more, relaxes}
use Rattle.lagrangian.proofs.cores.TimedCore.lagrangian_of.Goals as goal

pub loop-i-init : goal.loop-i-init
loop-i-init c = no_item_yet

pub loop-i-preserved : goal.loop-i-preserved
loop-i-preserved c =
    let few = c.args.self.now.ready.timed_items.few_items in
    least_of_one_more c.loop-i.invariant (omega (arith, c.loop-i-test.true, few)) c.cheapest_level.ensures

pub returns : goal.returns
returns c =
    record { relaxes = relaxes c.prices_of-known.ensures (omega (arith, c.loop-i-test.false)) c.loop-i.invariant; fixed_value = refl }
