use native.Mathlib.Omega.{arith}
use Rattle.lagrangian.specs.TimedCores.{timing_at}
use Rattle.set_tables.specs.OwnLevelLaws.{stays_outside, taken_within, taken_cheaper, stays_no_cheaper}
use Rattle.set_tables.proofs.own.better_level.Goals as goal

pub returns-then-not-is_within_window : goal.returns-then-not-is_within_window
unfolding timing_at
returns-then-not-is_within_window c = stays_outside _ _ _ _ _ (rw c.is_within_window.ensures at c.if-not-is_within_window.true)

pub returns-then-not-is_within_window-2 : goal.returns-then-not-is_within_window-2
unfolding timing_at
returns-then-not-is_within_window-2 c =
    taken_within _ _ _ _ _ (rw c.is_within_window.ensures at c.if-not-is_within_window.false)
    (rw c.is_within_window-2.ensures at c.if-not-is_within_window-2.true)

pub returns-then-core-item : goal.returns-then-core-item
unfolding timing_at
returns-then-core-item c =
    taken_cheaper _ _ _ _ _ (rw c.is_within_window.ensures at c.if-not-is_within_window.false)
    (rw c.is_within_window-2.ensures at c.if-not-is_within_window-2.false) c.if-core-item.true

pub returns : goal.returns
unfolding timing_at
returns c =
    stays_no_cheaper _ _ _ _ _ (rw c.is_within_window.ensures at c.if-not-is_within_window.false)
    (rw c.is_within_window-2.ensures at c.if-not-is_within_window-2.false) (omega (arith, c.if-core-item.false))
