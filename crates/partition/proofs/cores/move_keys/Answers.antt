use native.Mathlib.Omega.{arith}
use Rattle.partition.specs.MoveLaws.{next_move_fits}
use Rattle.partition.specs.Tables.{room_for_sets}
use Rattle.partition.proofs.cores.move_keys.Goals as goal

pub fill_weights-requires : goal.fill_weights-requires
fill_weights-requires c = let few = c.requires.few_items in record { le_most_items = few; in_bounds = room_for_sets few }

pub bounds-weights-x : goal.bounds-weights-x
bounds-weights-x c = omega (arith, room_for_sets c.requires.few_items)

pub overflow_mul-moved : goal.overflow_mul-moved
overflow_mul-moved c = omega (arith, next_move_fits {x = c.loop-x.x} c.requires c.fill_weights.ensures (omega arith))

pub overflow_add-moved : goal.overflow_add-moved
overflow_add-moved c = omega (arith, next_move_fits {x = c.loop-x.x} c.requires c.fill_weights.ensures (omega arith))
