use Rattle.std.proofs.Common.{◌≡◌, arith}
use Rattle.assignment.specs.Keys.{key_base}
use Rattle.lagrangian.specs.FrontKeyLaws.{key_fits, key_grows, power_above_0}
use Rattle.lagrangian.proofs.cores.TimedCore.cheapest_key.Goals as goal

pub loop-item-init : goal.loop-item-init
loop-item-init c = power_above_0 0

pub overflow_mul-key : goal.overflow_mul-key
unfolding key_base
overflow_mul-key c =
    let ready = c.args.self.now.ready.timed_items in
    omega (arith, key_fits _ 0 _ c.loop-item.invariant (omega (arith, c.loop-item-test.true, ready.few_items)) (omega arith))

pub overflow_add-key : goal.overflow_add-key
unfolding key_base
overflow_add-key c =
    let ready = c.args.self.now.ready.timed_items in
    omega (arith, key_fits _ c.choice_in_set.result _ c.loop-item.invariant (omega (arith, c.loop-item-test.true, ready.few_items)) (omega (arith, c.choice_in_set.ensures)))

pub loop-item-preserved : goal.loop-item-preserved
unfolding key_base
loop-item-preserved c =
    key_grows _ _ _ c.loop-item.invariant (omega (arith, c.choice_in_set.ensures))

pub returns : goal.returns
returns c =
    let inv = c.loop-item.invariant in
    let all : c.loop-item.item ≡ c.args.self.now.timed.items = omega (arith, c.loop-item-test.false, c.loop-item.auto.item-end) in
    rw (← all) inv
