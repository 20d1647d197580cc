use mathlib.Core.Path.{◌≡◌, sym, ◌∙◌}
use native.Mathlib.Omega.{arith}
use Rattle.lagrangian.specs.PriceColumns.{most_ticks}
use Rattle.timed_parts.specs.DemandRowLaws.{no_ticks_yet, one_tick_more}
use Rattle.timed_parts.proofs.demand_rows.fill_rows.Goals as goal

pub loop-n-init : goal.loop-n-init
loop-n-init c =
    no_ticks_yet c.requires.timed_items.few_items c.fill_row.ensures c.requires.rows_len c.fewest_column.ensures.fewest

pub loop-n-preserved : goal.loop-n-preserved
loop-n-preserved c =
    one_tick_more c.requires.timed_items.few_items c.loop-n.invariant (omega arith) c.tick_of_span-tick.ensures c.jobs_by.ensures c.fill_row-in-loop-n.ensures

pub shape_of-rows : goal.shape_of-rows
shape_of-rows c = c.loop-n.invariant.places ∙ sym c.requires.rows_len

pub returns : goal.returns
returns c =
    let at = c.loop-n in
    let all : at.n ≡ most_ticks = omega arith in
    rw all at at.invariant
