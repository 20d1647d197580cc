use mathlib.Core.Bool.{true}
use mathlib.Core.Path.{◌≡◌, sym, ◌∙◌}
use Rattle.dispatcher.specs.ColumnLaws.{fitting_columns}
use Rattle.dispatcher.specs.Columns.{columns_fit, numbered_tasks}
use Rattle.dispatcher.specs.States.{ticks_of, left_fits, last_fits, state_fits}
use Rattle.dispatcher.specs.TickOutcomeLaws.{columns_are_refused, state_is_refused, end_is_refused, call_is_made}
use Rattle.dispatcher.proofs.ticks.dispatch_prepared.Goals as goal
use Rattle.dispatcher.proofs.ticks.dispatch_prepared.Goals.{After-state_fits, Else-not-columns_fit}

columns_tested : (c : goal.Else-not-columns_fit) →
    let a = c.args in columns_fit a.numbers.now a.periods.now a.windows.now a.ticks.now ≡ true
columns_tested c = sym c.columns_fit.ensures ∙ c.if-not-columns_fit.false

state_answer : (c : goal.After-state_fits) →
    let a = c.args in
    state_fits (numbered_tasks a.numbers.now a.periods.now a.windows.now a.ticks.now) a.span a.state ≡ c.state_fits.result
unfolding state_fits left_fits last_fits ticks_of numbered_tasks
state_answer c = sym c.state_fits.ensures

pub returns-then-not-columns_fit : goal.returns-then-not-columns_fit
returns-then-not-columns_fit c = c.refused.ensures ∙ columns_are_refused _ _ _ _ _ _ _ (sym c.columns_fit.ensures ∙ c.if-not-columns_fit.true)

pub invariant_of-columns : goal.invariant_of-columns
invariant_of-columns c = record { well_formed = fitting_columns _ _ _ _ (columns_tested (goal.at.invariant_of-columns c).Else-not-columns_fit) }

pub returns-then-not-state_fits : goal.returns-then-not-state_fits
returns-then-not-state_fits c =
    c.refused-then-not-state_fits.ensures
    ∙ state_is_refused _ _ _ _ _ _ _ (columns_tested (goal.at.returns-then-not-state_fits c).Else-not-columns_fit) (state_answer (goal.at.returns-then-not-state_fits c).After-state_fits ∙ c.if-not-state_fits.true)

pub returns-then-is_unfounded : goal.returns-then-is_unfounded
returns-then-is_unfounded c =
    c.refused-then-is_unfounded.ensures
    ∙ end_is_refused _ _ _ _ _ _ _ (columns_tested (goal.at.returns-then-is_unfounded c).Else-not-columns_fit) (state_answer (goal.at.returns-then-is_unfounded c).After-state_fits ∙ c.if-not-state_fits.false)
    (sym c.is_unfounded.ensures ∙ c.if-is_unfounded.true)

pub advance-requires : goal.advance-requires
advance-requires c = state_answer (goal.at.advance-requires c).After-state_fits ∙ c.if-not-state_fits.false

pub returns : goal.returns
returns c =
    c.advance.ensures
    ∙ call_is_made _ _ _ _ _ _ _ (columns_tested (goal.at.returns c).Else-not-columns_fit) (state_answer (goal.at.returns c).After-state_fits ∙ c.if-not-state_fits.false)
    (sym c.is_unfounded.ensures ∙ c.if-is_unfounded.false)
