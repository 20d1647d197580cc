use mathlib.Core.Path.{◌≡◌}
use native.Mathlib.Omega.{arith}
use Rattle.laws.specs.DivisorLaws.{gcd_of_zero, euclid_step}
use Rattle.instance.proofs.multiples.greatest_common_divisor.Goals as goal

pub loop-rest-preserved : goal.loop-rest-preserved
loop-rest-preserved c = λ g h. c.loop-rest.invariant g (euclid_step _ _ h)

pub returns : goal.returns
returns c =
    let none : c.loop-rest.rest ≡ 0 = omega arith in
    c.loop-rest.invariant _ (rw none (gcd_of_zero _))
