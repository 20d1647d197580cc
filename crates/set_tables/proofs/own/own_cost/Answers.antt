use mathlib.Core.Path.{refl}
use native.Mathlib.Omega.{arith}
use borrow.Author.Tests.{leb-true}
use Rattle.laws.specs.Truth.{false_not_true}
use Rattle.lagrangian.specs.TimedCores.{timing_at}
use Rattle.set_tables.proofs.own.own_cost.Goals as goal

pub returns-then-not-is_within_window : goal.returns-then-not-is_within_window
unfolding timing_at
returns-then-not-is_within_window c = record { value = λ within. absurd (false_not_true (rw c.is_within_window.ensures at c.if-not-is_within_window.true) within); upper_bound = omega arith }

pub returns : goal.returns
unfolding timing_at
returns c =
    let within = leb-true _ _ (rw c.is_within_window.ensures at c.if-not-is_within_window.false) in
    record { value = λ its. refl; upper_bound = omega (arith, c.args.core.now.ready.cheap _ _ c.requires.0 c.requires.1 within) }
