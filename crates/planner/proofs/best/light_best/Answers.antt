use native.Mathlib.Omega.{arith}
use Rattle.planner.specs.HeldChoices.{held_offer_fits, held_light_told}
use Rattle.planner.proofs.best.light_best.Goals as goal

pub light_plan-requires : goal.light_plan-requires
light_plan-requires c =
    let pre = c.requires in rw c.core_of.ensures (held_offer_fits _ pre.sound pre.options_offered)

pub returns : goal.returns
returns c =
    let pre = c.requires in
    held_light_told _ pre.sound pre.options_offered (omega (arith, c.if-inst-gt0.false)) pre.due_at_period_end _
    (rw c.core_of.ensures at c.light_plan.ensures)
