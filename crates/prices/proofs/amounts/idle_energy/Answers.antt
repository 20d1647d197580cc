-- `amounts::idle_energy` meets its contract.
use Prim.Native.Nat.{◌-◌}
use mathlib.Core.Path.{◌≡◌, refl}
use native.Mathlib.Nat.{mul-le-mul}
use native.Mathlib.Omega.{arith}
use borrow.Author.Tests.{lt-ltb}
use Rattle.prices.proofs.amounts.idle_energy.Goals as goal

pub returns-then-kept-eq0 : goal.returns-then-kept-eq0
returns-then-kept-eq0 c = rw c.if-kept-eq0.true (omega arith)

pub returns-then-span-load : goal.returns-then-span-load
returns-then-span-load c =
    let args = c.args in
    let none : args.span - args.load ≡ 0 = omega (arith, c.if-span-load.true) in
    rw (none, lt-ltb 0 args.kept (omega (arith, c.if-kept-eq0.false))) (omega arith)

pub overflow_mul-result : goal.overflow_mul-result
overflow_mul-result c =
    let args = c.args in
    omega (arith, mul-le-mul {n₁ = args.idle} {m₁ = args.span - args.load} {n₂ = 4294967295} {m₂ = 4294967295} (omega arith) (omega arith))

pub returns : goal.returns
returns c = rw (lt-ltb 0 c.args.kept (omega (arith, c.if-kept-eq0.false))) refl
