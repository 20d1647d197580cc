use Prim.Native.Nat.{◌/◌}
use mathlib.Core.Path.{refl, ◌∙◌}
use native.Mathlib.Omega.{arith}
use lib.ListN.{length-set}
use Rattle.core_tables.specs.ChargedTables.{first_size, one_more_size}
use Rattle.core_tables.specs.SetSizes.{items_in-at_most}
use Rattle.core_tables.proofs.fill_sizes.Goals as goal

pub loop-x-init : goal.loop-x-init
loop-x-init c =
    let a = c.args in
    (refl, first_size a.items a.sizes.now c.requires.sizes_value)

pub overflow_add-sizes : goal.overflow_add-sizes
overflow_add-sizes c =
    let at = c.loop-x in
    let a = c.args in
    omega (arith, at.invariant.1.at (at.x / 2) (omega arith), items_in-at_most a.items (at.x / 2), c.requires.le_most_items)

pub loop-x-preserved : goal.loop-x-preserved
loop-x-preserved c =
    let at = c.loop-x in
    (length-set at.sizes at.x _ ∙ at.invariant.0, one_more_size at.invariant.1 (omega arith) (omega arith) (omega arith))
