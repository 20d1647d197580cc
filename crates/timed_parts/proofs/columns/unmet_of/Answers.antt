-- `unmet_of` hands the first items' columns to the test.
use borrow.Author.Rules.{rules}
use Rattle.timed_parts.specs.ColumnLaws.{span_columns, unmet_of_columns}
use Rattle.timed_parts.specs.Nodes.{WordColumn}
use Rattle.timed_parts.proofs.columns.unmet_of.Goals as goal
use Rattle.timed_parts.proofs.columns.unmet_of.Goals.{After-column_of-windows}

periods : (c : After-column_of-windows) → WordColumn c.args.timed.items 0 c.args.timings.now c.args.timed.items c.column_of-periods.result
periods c = let filled = c.column_of-periods.ensures in record { places = filled.places; at = λ j l. let one = filled.entries j l in search rules }

windows : (c : After-column_of-windows) → WordColumn c.args.timed.items 1 c.args.timings.now c.args.timed.items c.column_of-windows.result
windows c = let filled = c.column_of-windows.ensures in record { places = filled.places; at = λ j l. let one = filled.entries j l in search rules }

pub unmet_tick-requires : goal.unmet_tick-requires
unmet_tick-requires c =
    let columns = (goal.at.unmet_tick-requires c).After-column_of-windows in
    span_columns _ _ _ c.requires.timed_items (periods columns) (windows columns) c.requires.column_len

pub returns : goal.returns
returns c =
    let columns = (goal.at.returns c).After-column_of-windows in
    unmet_of_columns _ _ _ c.requires.timed_items (periods columns) (windows columns) c.requires.column_len c.unmet_tick.ensures
