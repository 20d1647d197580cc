use mathlib.Core.Path.{refl, ap, ◌∙◌}
use native.Mathlib.Omega.{arith}
use borrow.Author.Rules.{rules}
use Rattle.dispatch.specs.Chosen.{chosen_below}
use Rattle.dispatch.specs.Columns.{column_row}
use Rattle.dispatch.specs.RowLaws.{row_starts, row_goes_on, row_ends, ran_is_task}
use Rattle.dispatch.proofs.Columns.write_row.Goals as goal

pub loop-tick-init : goal.loop-tick-init
loop-tick-init c =
    let pre = c.requires in
    (search rules, search rules, refl, refl, row_starts _ _ _ _ c.args.self.now.well_formed _ _ pre.by_index)

pub slot_of-shown-requires : goal.slot_of-shown-requires
slot_of-shown-requires c =
    let ok = c.args.self.now.well_formed in
    chosen_below _ _ (omega (arith, ran_is_task c.run_earliest-run.ensures, ok.one_number_each))

pub loop-tick-preserved : goal.loop-tick-preserved
loop-tick-preserved c =
    let ok = c.args.self.now.well_formed in
    let inv = c.loop-tick.invariant in
    let released = c.release_due-soonest.ensures in
    let ran = c.run_earliest-run.ensures in
    let filled = c.fill.ensures in
    let shows = rw c.slot_of-shown.ensures at filled in (
      omega (arith, ran.until.within, released.next_release.within),
      released.next_release.within,
      omega (arith, ran.ran.same_length, released.released.same_length, inv.2),
      filled.same_length ∙ inv.3,
      row_goes_on _ _ _ _ ok _ _ _ _ _ _ _ _ _ _ inv.4 released.released released.next_release ran shows,
    )

pub returns : goal.returns
returns c =
    let inv = c.loop-tick.invariant in
    row_ends _ _ _ _ c.loop-tick.tick _ _ _ (omega (arith, inv.3)) inv.4 ∙ ap (column_row _ _ _ _) inv.3
