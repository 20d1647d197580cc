-- `least_over_halves` moves the keys of the upper cores, refuses in the table of the lower ones, and takes the least sum.
use mathlib.Core.Path.{◌∙◌}
use native.Mathlib.Omega.{arith}
use Rattle.partition.specs.CoreLaws.{moves_ready, sums_ready, sums_same}
use Rattle.partition.specs.HalvesLaws.{all_ready, every_length, refused_table, halves_core, least_over_halves_lem}
use Rattle.partition.specs.Tables.{room_for_sets}
use Rattle.assignment.specs.Refusing.{every}
use Rattle.partition.proofs.halves.least_over_halves.Goals as goal

pub move_keys-requires : goal.move_keys-requires
move_keys-requires c = let ready = c.requires in moves_ready ready.lower.few_items ready.small_shift ready.top_table (room_for_sets ready.lower.few_items)

pub refuse-requires : goal.refuse-requires
refuse-requires c = all_ready c.requires.lower c.sets_of-all.ensures

pub least_parted-least-requires : goal.least_parted-least-requires
least_parted-least-requires c =
    let ready = c.requires in
    let moved = c.move_keys in
    let refused = c.refuse in
    let kept = refused.auto in
    let all = c.sets_of-all.ensures in
    let table = refused_table ready.lower all refused.ensures kept.costs kept.keys in
    rw all (sums_ready (halves_core ready table) (omega (arith, moved.auto.moved, room_for_sets ready.lower.few_items)) moved.ensures)

pub note_plans-requires : goal.note_plans-requires
note_plans-requires c =
    let ready = c.requires in
    let moved = c.move_keys in
    let refused = c.refuse in
    let kept = refused.auto in
    let all = c.sets_of-all.ensures in
    let table = refused_table ready.lower all refused.ensures kept.costs kept.keys in
    rw all (sums_ready (halves_core ready table) (omega (arith, moved.auto.moved, room_for_sets ready.lower.few_items)) moved.ensures)

pub returns : goal.returns
returns c =
    let n = c.args.halves.items in
    let ready = c.requires in
    let moved = c.move_keys in
    let refused = c.refuse in
    let kept = refused.auto in
    let all = c.sets_of-all.ensures in
    let table = refused_table ready.lower all refused.ensures kept.costs kept.keys in
    c.least_parted-least.ensures n all
    ∙ sums_same (halves_core ready table) (omega (arith, moved.auto.moved, room_for_sets ready.lower.few_items)) moved.ensures (every n) (every_length n)
    ∙ least_over_halves_lem ready all refused.ensures
