-- A task that is chosen, or none.
use Rattle.std.specs.Prelude.{ℕ, suc, ◌≤◌, ◌<◌, ◌≡◌, List, Option, Some, None, IfSome, length, get_or}
use Rattle.std.proofs.Common.{arith}

-- counted from 1, as a slot shows it; 0 for none
abbrev pub number_of : Option ℕ → ℕ
number_of None = 0
number_of (Some i) = suc i

-- what holds of the task with a number, where one is chosen
pub of_number : (P : ℕ → Type 0) (task : Option ℕ) (i : ℕ) → number_of task ≡ suc i → IfSome task P → P i
of_number P None i e holds = absurd (omega arith)
of_number P (Some j) i e holds = let same : j ≡ i = omega arith in rw same at holds

pub chosen_below : (task : Option ℕ) (n : ℕ) → number_of task ≤ n → IfSome task (λ i. i < n)
chosen_below None n within = tt
chosen_below (Some i) n within = within

-- the task has a place among those of which these ticks are left, and some are
abbrev pub HasTicks : List ℕ → ℕ → Type 0
HasTicks left i = (i < length left) × (0 < get_or left i 0)
