-- Calls one after another from a fresh start, each handed the state that the call before it answered.
use Rattle.refusals.specs.Refusals.{accepted}
use Rattle.std.specs.Prelude.{ℕ, zero, suc, Bool, List, ◌≡◌}
use Rattle.dispatcher.specs.Outcomes.{dispatch_outcome}
use Rattle.dispatcher.specs.States.{fresh_state}
use Rattle.dispatcher.specs.declared.DispatchState.{DispatchState}
use Rattle.dispatcher.specs.declared.Dispatched.{Dispatched}

unfoldable pub state_before : (words plan : List ℕ) → ℕ → (reports : ℕ → Bool) → ℕ → DispatchState
state_before words plan core reports zero = fresh_state
state_before words plan core reports (suc n) = (dispatch_outcome words plan core (state_before words plan core reports n) (reports n)).state

-- what call n, counted from 0, answers
abbrev pub call_at : (words plan : List ℕ) → ℕ → (reports : ℕ → Bool) → ℕ → Dispatched
call_at words plan core reports n = dispatch_outcome words plan core (state_before words plan core reports n) (reports n)

-- the tasks that the calls answer
abbrev pub answers_of : (words plan : List ℕ) → ℕ → (reports : ℕ → Bool) → ℕ → ℕ
answers_of words plan core reports n = (call_at words plan core reports n).task

-- "with any accepted reports": no call is refused
abbrev pub AllAccepted : (words plan : List ℕ) → ℕ → (reports : ℕ → Bool) → Type 0
AllAccepted words plan core reports = (n : ℕ) → (call_at words plan core reports n).verdict ≡ accepted
