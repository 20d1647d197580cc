-- `multiples::greatest_common_divisor` meets its contract. The loop's invariant: what is greatest for the two numbers now is
-- greatest for the two that were given.
use Prim.Native.Nat.{ℕ}
use Rattle.laws.specs.DivisorLaws.{IsGcd}
use Rattle.instance.proofs.multiples.greatest_common_divisor.Given as goal

abbrev pub invariant-loop-rest : goal.invariant-loop-rest
invariant-loop-rest l = (g : ℕ) → IsGcd l.divisor l.rest g → IsGcd l.a l.b g

abbrev pub decreases-loop-rest : goal.decreases-loop-rest
decreases-loop-rest l = l.rest
