-- The columns are fit for a row, and their row is the core's.
use mathlib.Core.Path.{sym, ◌∙◌}
use Rattle.tables.specs.KeptRowLaws.{columns_ok, length_front, row_of_columns}
use Rattle.tables.proofs.table.fill_core.Goals as goal

pub slice_bounds-fill_row-end : goal.slice_bounds-fill_row-end
slice_bounds-fill_row-end c =
    let columns = c.kept_tasks-kept.ensures in
    sym (length_front _ c.requires.sound.valid _ _ _ columns _ columns.places.of_numbers)

pub slice_bounds-fill_row-end-2 : goal.slice_bounds-fill_row-end-2
slice_bounds-fill_row-end-2 c =
    let columns = c.kept_tasks-kept.ensures in
    sym (length_front _ c.requires.sound.valid _ _ _ columns _
    columns.places.of_periods)

pub slice_bounds-fill_row-end-3 : goal.slice_bounds-fill_row-end-3
slice_bounds-fill_row-end-3 c =
    let columns = c.kept_tasks-kept.ensures in
    sym (length_front _ c.requires.sound.valid _ _ _ columns _
    columns.places.of_windows)

pub slice_bounds-fill_row-end-4 : goal.slice_bounds-fill_row-end-4
slice_bounds-fill_row-end-4 c =
    let columns = c.kept_tasks-kept.ensures in
    sym (length_front _ c.requires.sound.valid _ _ _ columns _
    columns.places.of_ticks)

pub fill_row-requires : goal.fill_row-requires
fill_row-requires c =
    let start = c in record { columns_ok = columns_ok _ start.requires.sound.valid _ _ _ c.kept_tasks-kept.ensures; slots_len_bound = start.requires.slots_len_bound }

pub returns : goal.returns
returns c =
    let start = c in
    c.fill_row.ensures ∙ row_of_columns _ start.requires.sound.valid _ _ _
    c.kept_tasks-kept.ensures _
