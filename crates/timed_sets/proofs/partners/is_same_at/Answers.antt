use mathlib.Core.Path.{refl}
use native.Mathlib.Omega.{arith}
use borrow.Author.Tests.{eqb-true}
use Rattle.laws.specs.Truth.{false_not_true}
use Rattle.lagrangian.specs.TimedCores.{timing_at}
use Rattle.timed_sets.proofs.partners.is_same_at.Goals as goal

pub returns-then-timings-j : goal.returns-then-timings-j
returns-then-timings-j c = record { level_value = λ is. absurd (false_not_true refl is); level_value_2 = λ is. absurd (false_not_true refl is) }

pub returns : goal.returns
unfolding timing_at
returns c = record { level_value = λ is. omega (arith, c.if-timings-j.false); level_value_2 = λ is. eqb-true _ _ is }
