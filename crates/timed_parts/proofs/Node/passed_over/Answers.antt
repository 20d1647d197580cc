use native.Mathlib.Omega.{arith}
use Rattle.std.proofs.Common.{refl}
use Rattle.assignment.specs.Keys.{key_base}
use Rattle.timed_parts.specs.NodeLaws.{next_key_fits}
use Rattle.timed_parts.proofs.Node.passed_over.Goals as goal

pub overflow_mul-result : goal.overflow_mul-result
unfolding key_base
overflow_mul-result c = omega (arith, next_key_fits c.requires 0 (omega arith))

pub returns : goal.returns
unfolding key_base
returns c = refl
