use Prim.Native.Nat.{◌/◌}
use mathlib.Core.Path.{refl, ◌∙◌}
use native.Mathlib.Omega.{arith}
use lib.ListN.{length-set}
use Rattle.search.specs.PlanLaws.{nothing_written, next_digit, one_more_digit, all_written}
use Rattle.search.proofs.plan.write_plan.Goals as goal

pub loop-i-init : goal.loop-i-init
loop-i-init c =
    let start = c in
    (refl, nothing_written start.args.items start.args.key start.args.plan.now _ c.keys_of-power.ensures start.requires.key_bound)

pub nonzero_div-plan : goal.nonzero_div-plan
nonzero_div-plan c = omega (arith, (next_digit c.loop-i.invariant.1 c.loop-i-test.true).some_weight)

pub nonzero_rem-rest : goal.nonzero_rem-rest
nonzero_rem-rest c = omega (arith, (next_digit c.loop-i.invariant.1 c.loop-i-test.true).some_weight)

pub loop-i-preserved : goal.loop-i-preserved
loop-i-preserved c =
    let at = c.loop-i in
    (length-set at.plan at.i (at.rest / (at.power / 33)) ∙ at.invariant.0, one_more_digit at.invariant.1 c.loop-i-test.true (omega arith))

pub returns : goal.returns
returns c = all_written c.loop-i.invariant.1 c.loop-i-test.false
