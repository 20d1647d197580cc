use Prim.Native.Nat.{◌+◌, ◌*◌, ◌^◌, ◌≤◌, ◌<◌}
use mathlib.Core.Path.{◌≡◌}
use native.Mathlib.Omega.{arith}
use Rattle.assignment.specs.KeyLaws.{keys_fit}
use Rattle.assignment.specs.Limits.{most_items}
use Rattle.light.specs.Light.{LightBelow}
use Rattle.light.specs.LightLaws.{no_items, key_low, one_more_item, light_is_best}
use Rattle.light.proofs.light_plan.Goals as goal
use Rattle.light.proofs.light_plan.Goals.{In_ok-pick}

pub loop-i-init : goal.loop-i-init
loop-i-init c = no_items _ _ _ _ _ _

-- past the test, the item's pick is added
added : (c : goal.In_ok-pick) → c.loop-i.used + c.in_ok-pick.pick.load ≤ c.args.core.capacity →
    let a = c.args in
    let at = c.loop-i in
    let pick = c.in_ok-pick.pick in
    LightBelow a.core.levels a.core.capacity a.load.now a.cost.now a.refusal.now a.must.now (at.i + 1) (at.used + pick.load) (at.total + pick.cost) (at.key * 33 + pick.choice)
added c fits =
    one_more_item c.requires c.loop-i.invariant c.loop-i-test.true c.in_ok-pick.ensures fits

-- so its key is of few enough digits
key_fits : (c : goal.In_ok-pick) → c.loop-i.used + c.in_ok-pick.pick.load ≤ c.args.core.capacity →
    c.loop-i.key * 33 + c.in_ok-pick.pick.choice < 2 ^ 64
key_fits c fits =
    let few : c.loop-i.i + 1 ≤ most_items = omega (arith, c.requires.items_limited) in
    omega (arith, key_low c.requires (added c fits), keys_fit few)

pub overflow_add-total : goal.overflow_add-total
overflow_add-total c = omega (arith, (added (goal.at.overflow_add-total c).In_ok-pick (omega arith)).total_low, c.requires.items_limited)

pub overflow_mul-key : goal.overflow_mul-key
overflow_mul-key c = omega (arith, key_fits (goal.at.overflow_mul-key c).In_ok-pick (omega arith))

pub overflow_add-key : goal.overflow_add-key
overflow_add-key c = omega (arith, key_fits (goal.at.overflow_add-key c).In_ok-pick (omega arith))

pub loop-i-preserved : goal.loop-i-preserved
loop-i-preserved c = added (goal.at.loop-i-preserved c).In_ok-pick (omega arith)

pub returns : goal.returns
returns c =
    let at = c.loop-i in
    let all : at.i ≡ c.args.items = omega arith in
    λ cores some. light_is_best c.requires (rw all at at.invariant) cores some
