use Prim.Native.Nat.{◌+◌}
use native.Mathlib.Omega.{arith}
use Rattle.std.proofs.Common.{refl}
use Rattle.assignment.specs.Keys.{key_base}
use Rattle.timed_parts.specs.NodeLaws.{next_key_fits}
use Rattle.timed_parts.proofs.Node.run_at.Goals as goal

pub overflow_mul-result : goal.overflow_mul-result
unfolding key_base
overflow_mul-result c = omega (arith, next_key_fits c.requires.small_node 0 (omega arith))

pub overflow_add-result-4 : goal.overflow_add-result-4
unfolding key_base
overflow_add-result-4 c =
    let small = c.requires.small_node in
    omega (arith, next_key_fits small (c.args.self.level + 1) (omega (arith, small.level)))

pub returns : goal.returns
unfolding key_base
returns c = refl
