use mathlib.Core.Path.{refl}
use native.Mathlib.Omega.{arith}
use Rattle.assignment.specs.Keys.{key_base}
use Rattle.lagrangian.specs.FrontKeyLaws.{power_above_0}
use Rattle.timed_sets.proofs.given.choice_at.Goals as goal

pub nonzero_div-result : goal.nonzero_div-result
nonzero_div-result c = omega (arith, c.keys_of.ensures, power_above_0 c.args.place)

pub returns : goal.returns
unfolding key_base
returns c = rw (← c.keys_of.ensures) refl
