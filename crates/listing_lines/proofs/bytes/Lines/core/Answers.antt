use native.Mathlib.Omega.{arith}
use Rattle.listing_lines.specs.HeldLines.{row_within_table, held_core_line}
use Rattle.listing_lines.proofs.bytes.Lines.core.Goals as goal

pub overflow_mul-start : goal.overflow_mul-start
overflow_mul-start c =
    omega (arith, row_within_table c.args.inst c.requires.sound c.args.table.now c.requires.table_len c.args.k c.requires.k_bound)

pub overflow_add-end : goal.overflow_add-end
overflow_add-end c =
    omega (arith, row_within_table c.args.inst c.requires.sound c.args.table.now c.requires.table_len c.args.k c.requires.k_bound)

pub slice_bounds-row-end : goal.slice_bounds-row-end
slice_bounds-row-end c =
    row_within_table c.args.inst c.requires.sound c.args.table.now c.requires.table_len c.args.k c.requires.k_bound

pub row-requires : goal.row-requires
row-requires c =
    rw (held_core_line _ c.requires.sound _ c.requires.table_len _ c.requires.k_bound) at c.requires.room

pub returns : goal.returns
returns c =
    rw (held_core_line _ c.requires.sound _ c.requires.table_len _ c.requires.k_bound) c.row.ensures
