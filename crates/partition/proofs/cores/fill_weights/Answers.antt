use Prim.Native.Nat.{◌<◌}
use native.Mathlib.Omega.{arith}
use borrow.Author.Rules.{rules}
use lib.ListN.{length, length-set}
use lib.Pow.{pow_pos}
use Rattle.partition.specs.MoveLaws.{first_weight, next_weight_fits, one_more_weight}
use Rattle.partition.proofs.cores.fill_weights.Goals as goal

pub loop-x-init : goal.loop-x-init
loop-x-init c =
    let a = c.args in
    let long : 0 < length a.weights.now = omega (arith, pow_pos a.items) in
    first_weight a.items a.weights.now long

pub overflow_mul-weights : goal.overflow_mul-weights
overflow_mul-weights c = omega (arith, next_weight_fits c.loop-x.invariant (search rules) c.requires.le_most_items (omega arith))

pub overflow_add-weights : goal.overflow_add-weights
overflow_add-weights c = omega (arith, next_weight_fits c.loop-x.invariant (search rules) c.requires.le_most_items (omega arith))

pub loop-x-preserved : goal.loop-x-preserved
loop-x-preserved c =
    let at = c.loop-x in
    one_more_weight at.invariant at.auto.x (omega (arith, length-set c.args.weights.now 0 0))
