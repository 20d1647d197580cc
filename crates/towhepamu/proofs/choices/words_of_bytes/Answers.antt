use Rattle.std.proofs.Common.{arith}
use Rattle.towhepamu.specs.Copies.{nothing_copied, one_more_copied}
use Rattle.towhepamu.proofs.choices.words_of_bytes.Goals as goal

pub loop-i-init : goal.loop-i-init
loop-i-init c = nothing_copied _ _

pub loop-i-preserved : goal.loop-i-preserved
loop-i-preserved c =
    let so_far = c.loop-i.invariant in
    one_more_copied _ _ _ _ so_far (omega (arith, c.loop-i-test.true)) (omega (arith, c.loop-i-test.true))
