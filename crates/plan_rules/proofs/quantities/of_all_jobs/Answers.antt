use Prim.Native.Nat.{ℕ, ◌*◌}
use mathlib.Core.Path.{ap}
use native.Mathlib.Nat.{mul-le-mul}
use native.Mathlib.Omega.{arith}
use borrow.Author.Rules.{rules}
use Rattle.plan_rules.proofs.quantities.of_all_jobs.Goals as goal

pub overflow_mul-result : goal.overflow_mul-result
overflow_mul-result c =
    let jobs-fit = c.jobs_in.type_inv in
    omega (arith, mul-le-mul {n₁ = c.jobs_in.result} {m₁ = c.args.each} {n₂ = 4294967295} {m₂ = 4294967295} (omega (arith, jobs-fit)) (search rules))

pub returns : goal.returns
returns c = ap (λ (n : ℕ). n * c.args.each) c.jobs_in.ensures
