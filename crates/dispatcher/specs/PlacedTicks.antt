-- The tests of a state against the ticks that the columns have, by number.
use Rattle.std.specs.Prelude.{ℕ, pred, ◌≤◌, ◌<◌, ◌||◌, List, [], ◌⊎◌, ◌≡◌, leb}
use Rattle.std.proofs.Common.{inl, inr, ◌∙◌, arith}
use Rattle.std.proofs.Math.Path.{sym, ap}
use Rattle.std.proofs.Math.Dec.{ltb, eqb}
use Rattle.std.proofs.Math.ListN.{get_or, get_or-eq_default}
use Rattle.laws.specs.Below.{lt_or_le}
use Rattle.laws.specs.Search.{every}
use Rattle.ranges.specs.Limits.{most_tasks}
use Rattle.dispatch.specs.Rows.{CoreTasks}
use Rattle.dispatcher.specs.Columns.{numbered_tasks}
use Rattle.dispatcher.specs.Places.{TicksByNumber}
use Rattle.dispatcher.specs.StateLaws.{ticks_of_task, no_ticks_beyond}
use Rattle.dispatcher.specs.States.{ticks_of, left_fits, last_fits}
use Rattle.dispatcher.specs.TestLaws.{every_same}

module _ (numbers ticks most : List ℕ) (placed : TicksByNumber numbers ticks most) where
  abbrev core : CoreTasks
  core = numbered_tasks numbers [] [] ticks

  placed_everywhere : (i : ℕ) → get_or most i 0 ≡ ticks_of core i
  unfolding numbered_tasks
  placed_everywhere i = go (lt_or_le i most_tasks)
    where
      go : (i < most_tasks) ⊎ (most_tasks ≤ i) → get_or most i 0 ≡ ticks_of core i
      go (inl l) = placed.its_ticks i l ∙ sym (ticks_of_task core i l)
      go (inr beyond) = get_or-eq_default most 0 {n = i} (omega (arith, placed.places)) ∙ sym (no_ticks_beyond core i beyond)

  pub left_tested : (left : List ℕ) → left_fits core left ≡ every (λ i. leb (get_or left i 0) (get_or most i 0)) most_tasks
  unfolding left_fits
  left_tested left = every_same _ _ most_tasks (λ i l. ap (leb (get_or left i 0)) (sym (placed_everywhere i)))

  pub last_tested : (last : ℕ) → last_fits core last ≡ (eqb last 0 || ltb 0 (get_or most (pred last) 0))
  unfolding last_fits
  last_tested last = ap (λ (ticks : ℕ). eqb last 0 || ltb 0 ticks) (sym (placed_everywhere (pred last)))
