use mathlib.Core.Path.{refl}
use native.Mathlib.Omega.{arith}
use Rattle.laws.specs.Truth.{false_not_true}
use Rattle.lagrangian.specs.TimedCores.{timing_at}
use Rattle.timed_sets.proofs.partners.is_partner.Goals as goal

pub returns-then-not-is_in_set : goal.returns-then-not-is_in_set
returns-then-not-is_in_set c = record { partner = λ is. absurd (false_not_true refl is); i_bound = λ keyed is. absurd (false_not_true refl is) }

pub returns-then-timings-j : goal.returns-then-timings-j
returns-then-timings-j c = record { partner = λ is. absurd (false_not_true refl is); i_bound = λ keyed is. absurd (false_not_true refl is) }

pub returns-then-is_due_too_soon : goal.returns-then-is_due_too_soon
returns-then-is_due_too_soon c = record { partner = λ is. absurd (false_not_true refl is); i_bound = λ keyed is. absurd (false_not_true refl is) }

pub returns : goal.returns
unfolding timing_at
returns c = record { partner = λ is. record { earlier = omega arith; same_period = omega arith; same_levels = c.has_same_levels.ensures is }; i_bound = λ keyed is. c.is_due_too_soon.ensures keyed c.if-is_due_too_soon.false }
