-- The dispatcher's call over a state that is lent.
use Rattle.std.specs.Prelude.{ℕ, Bool, List, ◌≡◌}
use Rattle.dispatcher.specs.Outcomes.{dispatch_outcome}
use Rattle.dispatcher.specs.declared.DispatchState.{DispatchState}
use Rattle.dispatcher.specs.declared.in_place.TickAnswer.{TickAnswer}

-- what is answered, and what stands in the state's place afterwards, is the outcome of the call by value
pub record Ticked (words plan : List ℕ) (core : ℕ) (before : DispatchState) (ended : Bool) (answer : TickAnswer) (after : DispatchState) : Type 0 where
  pub same_verdict : answer.verdict ≡ (dispatch_outcome words plan core before ended).verdict
  pub same_task : answer.task ≡ (dispatch_outcome words plan core before ended).task
  pub next_state : after ≡ (dispatch_outcome words plan core before ended).state
