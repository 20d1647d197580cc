-- A choice among tasks, one task after another.
use Rattle.std.specs.Prelude.{ℕ, ◌≤◌, ◌<◌, ◌≡◌, Option, Some, IfSome}
use Rattle.tick_steps.specs.declared.Best.{Best}

-- the better of a choice, if there is one, and the task of one more column: one that is idle, or due no earlier, leaves the choice
pub data Earlier (best : Option Best) (column left due : ℕ) : Option Best → Type 0 where
  passed_idle : left ≡ 0 → Earlier best column left due best
  kept : (left ≡ 0 → ⊥) → (before : Best) → best ≡ Some before → before.due ≤ due → Earlier best column left due best
  taken : (left ≡ 0 → ⊥) → IfSome best (λ before. due < before.due) → Earlier best column left due (Some (record { column = column; due = due }))
