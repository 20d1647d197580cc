use mathlib.Core.List.{[]}
use mathlib.Core.Path.{◌≡◌, sym, ◌∙◌}
use Rattle.dispatcher.specs.Columns.{numbered_tasks}
use Rattle.dispatcher.specs.PlacedTicks.{left_tested, last_tested}
use Rattle.dispatcher.specs.StateLaws.{late_tick_refused, left_refused, last_decides}
use Rattle.dispatcher.specs.States.{left_fits}
use Rattle.dispatcher.proofs.columns.Columns.state_fits.Goals as goal
use Rattle.dispatcher.proofs.columns.Columns.state_fits.Goals.{After-left_within}

-- what the test of the ticks left answers
left_answer : (c : goal.After-left_within) →
    let args = c.args in
    left_fits (numbered_tasks args.self.now.numbers.now [] [] args.self.now.ticks.now) args.state.left ≡ c.left_within.result
left_answer c = left_tested _ _ _ c.ticks_by_number-most.ensures _ ∙ sym c.left_within.ensures

pub returns-then-span-state : goal.returns-then-span-state
returns-then-span-state c = late_tick_refused _ _ _ c.if-span-state.true

pub returns-then-left_within : goal.returns-then-left_within
returns-then-left_within c =
    c.last_within.ensures
    ∙ sym (last_tested _ _ _ c.ticks_by_number-most.ensures _)
    ∙ last_decides _ _ _ c.if-span-state.false (left_answer (goal.at.returns-then-left_within c).After-left_within ∙ c.if-left_within.true)

pub returns-else-left_within : goal.returns-else-left_within
returns-else-left_within c =
    rw c.if-left_within.false
    (left_refused _ _ _ c.if-span-state.false (left_answer (goal.at.returns-else-left_within c).After-left_within ∙ c.if-left_within.false))
