use Prim.Native.Nat.{ℕ}
use mathlib.Core.Path.{◌≡◌}
use native.Mathlib.Omega.{arith}
use Rattle.timed_sets.proofs.refits.is_refit_due.Goals as goal

pub returns-then-node-gt0 : goal.returns-then-node-gt0
returns-then-node-gt0 c = λ no. let z : ◌≡◌ {A = ℕ} 0 1 = cc in absurd (omega arith)

pub returns-then-node-bounded : goal.returns-then-node-bounded
returns-then-node-bounded c = λ no. let z : ◌≡◌ {A = ℕ} 0 1 = cc in absurd (omega arith)
