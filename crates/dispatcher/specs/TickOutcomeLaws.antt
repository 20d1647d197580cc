-- The outcome of a tick over columns, test by test.
use Rattle.refusals.specs.Refusals.{accepted}
use Rattle.std.specs.Prelude.{ℕ, Bool, true, false, ◌&&◌, List, ◌≡◌, eqb, Err}
use Rattle.std.proofs.Math.Path.{refl}
use Rattle.dispatch.specs.Rows.{CoreTasks}
use Rattle.refusals.specs.declared.Refusal.{Refusal}
use Rattle.refusals.specs.declared.Refusal.TheVariants.{CoreOrState, EarlyEnd}
use Rattle.dispatcher.specs.Columns.{columns_fit, columns_pass, numbered_tasks, tick_outcome}
use Rattle.dispatcher.specs.States.{dispatched_where, state_fits, state_passes, end_passes}
use Rattle.dispatcher.specs.declared.DispatchState.{DispatchState}
use Rattle.dispatcher.specs.declared.Dispatched.{Dispatched}

module _ (numbers periods windows ticks : List ℕ) (span : ℕ) (s : DispatchState) (ended : Bool) where
  abbrev core : CoreTasks
  core = numbered_tasks numbers periods windows ticks

  abbrev turned_away : Refusal → Dispatched
  turned_away r = record { verdict = Err r; task = 0; state = s }

  pub columns_are_refused : columns_fit numbers periods windows ticks ≡ false →
      turned_away CoreOrState ≡ tick_outcome numbers periods windows ticks span s ended
  unfolding tick_outcome columns_pass
  columns_are_refused fails = rw fails refl

  module _ (columns_fit_lem : columns_fit numbers periods windows ticks ≡ true) where
    pub state_is_refused : state_fits core span s ≡ false → turned_away CoreOrState ≡ tick_outcome numbers periods windows ticks span s ended
    unfolding tick_outcome columns_pass state_passes
    state_is_refused fails = rw (columns_fit_lem, fails) refl

    module _ (state_fits_lem : state_fits core span s ≡ true) where
      pub end_is_refused : ended && eqb s.last 0 ≡ true → turned_away EarlyEnd ≡ tick_outcome numbers periods windows ticks span s ended
      unfolding tick_outcome columns_pass state_passes end_passes
      end_is_refused unfounded = rw (columns_fit_lem, state_fits_lem, unfounded) refl

      pub call_is_made : ended && eqb s.last 0 ≡ false →
          dispatched_where accepted core span s ended ≡ tick_outcome numbers periods windows ticks span s ended
      unfolding tick_outcome columns_pass state_passes end_passes
      call_is_made founded = rw (columns_fit_lem, state_fits_lem, founded) refl
