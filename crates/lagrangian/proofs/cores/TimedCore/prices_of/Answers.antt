use Rattle.lagrangian.proofs.cores.TimedCore.prices_of.Goals as goal

pub loop-tick-init : goal.loop-tick-init
loop-tick-init c = c.free-known.ensures _ _
