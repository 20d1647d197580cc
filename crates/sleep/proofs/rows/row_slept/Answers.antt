-- The last run of idle slots and the leading one are one gap.
use mathlib.Core.Path.{◌∙◌}
use Rattle.sleep.specs.RowLaws.{row_repeats}
use Rattle.sleep.specs.RowWalkLaws.{row_comes_to, row_without_gaps}
use Rattle.sleep.proofs.rows.row_slept.Goals as goal

pub returns-in-None : goal.returns-in-None
returns-in-None c =
    let w = c.walk_row-all.ensures in
    row_without_gaps _ _ _ (row_repeats _) (rw c.in-None.is at w.energies) (rw c.in-None.is at w.sleeps)

pub returns-in-Some : goal.returns-in-Some
returns-in-Some c =
    let w = c.walk_row-all.ensures in
    c.with_gap.ensures ∙ row_comes_to _ _ _ (row_repeats _) (rw c.in-Some.is at w.energies) (rw c.in-Some.is at w.sleeps)
