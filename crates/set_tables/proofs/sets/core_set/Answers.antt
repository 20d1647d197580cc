use Rattle.std.proofs.Common.{◌≡◌, Bool, true, false, cond, refl, arith}
use mir.Val.{bool_byte}
use Rattle.set_tables.specs.CoreSets.{next_choice, one_more_choice, all_read}
use Rattle.set_tables.proofs.sets.core_set.Goals as goal

bit_of : (b : Bool) → bool_byte b ≡ cond b 1 0
bit_of true = refl
bit_of false = refl

pub nonzero_div-rest : goal.nonzero_div-rest
nonzero_div-rest c = omega (arith, (next_choice c.loop-i.invariant c.loop-i-test.true).some_weight)

pub nonzero_rem-rest : goal.nonzero_rem-rest
nonzero_rem-rest c = omega (arith, (next_choice c.loop-i.invariant c.loop-i-test.true).some_weight)

pub loop-i-preserved : goal.loop-i-preserved
loop-i-preserved c = rw (c.from.ensures, bit_of c.runs_on.result, c.runs_on.ensures) (one_more_choice c.loop-i.invariant c.loop-i-test.true)

pub returns : goal.returns
returns c = all_read c.loop-i.invariant c.loop-i-test.false
