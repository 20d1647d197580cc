-- A key of so many digits fits 64 bits.
use native.Mathlib.Omega.{arith}
use Rattle.assignment.specs.KeyLaws.{keys_fit}
use Rattle.assignment.specs.Keys.{key_base}
use Rattle.values.proofs.powers.keys_of.Goals as goal

pub pow-requires : goal.pow-requires
unfolding key_base
pow-requires c = omega (arith, keys_fit c.requires)

pub returns : goal.returns
unfolding key_base
returns c = c.pow.ensures
