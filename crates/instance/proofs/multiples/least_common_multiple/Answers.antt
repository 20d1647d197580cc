-- `multiples::least_common_multiple` meets its contract.
use native.Mathlib.Nat.{div-le_self, le_trans, mul-le-mul, pos_of_dvd_of_pos}
use native.Mathlib.Omega.{arith}
use Rattle.laws.specs.DivisorLaws.{lcm_by_gcd}
use Rattle.instance.proofs.multiples.least_common_multiple.Goals as goal

pub nonzero_div-result : goal.nonzero_div-result
nonzero_div-result c = omega (arith, pos_of_dvd_of_pos c.greatest_common_divisor.ensures.left c.requires.0)

pub overflow_mul-result : goal.overflow_mul-result
overflow_mul-result c =
    let pre = c.requires in
    omega (arith, mul-le-mul (le_trans (div-le_self _ c.greatest_common_divisor.result) pre.1) pre.3)

pub returns : goal.returns
returns c =
    let pre = c.requires in
    lcm_by_gcd _ _ _ pre.0 pre.2 c.greatest_common_divisor.ensures
