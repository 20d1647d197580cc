use borrow.Author.Tests.{leb-true, leb-false}
use Rattle.laws.specs.Truth.{false_not_true}
use Rattle.lagrangian.specs.TimedCores.{timing_at}
use Rattle.timed_sets.specs.Exchange.{too_long, out_of_order}
use Rattle.timed_sets.proofs.order.may_run.Goals as goal

pub returns-then-is_within_window : goal.returns-then-is_within_window
unfolding timing_at
returns-then-is_within_window c = record { level_bound = λ is. leb-true _ _ (rw c.is_within_window.ensures at c.if-is_within_window.true); not_run = λ is. out_of_order (c.is_in_order.ensures is) }

pub returns-else-is_within_window : goal.returns-else-is_within_window
unfolding timing_at
returns-else-is_within_window c = record { level_bound = λ is. absurd (false_not_true c.if-is_within_window.false is); not_run = λ is. too_long (leb-false _ _ (rw c.is_within_window.ensures at c.if-is_within_window.false)) }
