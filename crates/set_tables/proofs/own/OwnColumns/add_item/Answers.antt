-- `add_item` adds the columns' entries of one item.
use Prim.Native.Nat.{◌+◌, ◌*◌, ◌≤◌}
use mathlib.Core.Path.{refl, ap}
use native.Mathlib.Omega.{arith}
use Rattle.lagrangian.specs.TimedCores.{timing_at}
use Rattle.set_tables.specs.LiftedTables.{most_amount}
use Rattle.set_tables.specs.OwnColumnLaws.{digit_low, one_column_more}
use Rattle.set_tables.proofs.own.OwnColumns.add_item.Goals as goal
use Rattle.set_tables.proofs.own.OwnColumns.add_item.Goals.{After-keys_of}

-- the digit of the item's choice is low
low : (c : goal.After-keys_of) → (c.own_level-level.result + 1) * c.keys_of.result ≤ most_amount
low c =
    let pre = c.requires in
    digit_low c.keys_of.ensures (omega (arith, c.own_level-level.ensures.upper_bound, c.args.core.now.ready.timed_items.few_levels)) pre.le_levels.1
    c.args.core.now.ready.timed_items.few_items

pub overflow_mul-self-2 : goal.overflow_mul-self-2
overflow_mul-self-2 c = record { fits = omega (arith, low (goal.at.overflow_mul-self-2 c).After-keys_of) }

pub returns : goal.returns
unfolding timing_at
returns c =
    let level = c.own_level-level.ensures.value in
    one_column_more c.requires.own_up_to (omega (arith, c.requires.le_levels, c.args.core.now.ready.timed_items.few_items))
    (ap (timing_at c.args.core.now.timings.now c.args.item).ticks level) (rw level at c.own_cost.ensures.value) c.own_cost.ensures.upper_bound (rw (level, c.keys_of.ensures) refl) (low (goal.at.returns c).After-keys_of)
