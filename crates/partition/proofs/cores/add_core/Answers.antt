-- `add_core` moves the keys, lowers every split from entries of none, and copies the entries back.
use native.Mathlib.Nat.{le_refl, lt_of_lt_of_le}
use native.Mathlib.Omega.{arith}
use lib.ListN.{get_or-replicate}
use Rattle.assignment.specs.Words.{no_cost}
use Rattle.partition.specs.CoreLaws.{moves_ready, splits_ready, core_added}
use Rattle.partition.specs.Tables.{most_sets, room_for_sets}
use Rattle.partition.proofs.cores.add_core.Goals as goal

pub move_keys-requires : goal.move_keys-requires
move_keys-requires c = let ready = c.requires in moves_ready ready.few_items ready.small_shift ready.top_table (room_for_sets ready.few_items)

pub lower_all-requires : goal.lower_all-requires
lower_all-requires c =
    let ready = c.requires in
    let moved = c.move_keys in
    let room = room_for_sets ready.few_items in
    rw c.sets_of.ensures
    (splits_ready ready (omega (arith, moved.auto.moved)) moved.ensures (le_refl most_sets) (le_refl most_sets))

pub copy_entries-requires : goal.copy_entries-requires
copy_entries-requires c =
    let ready = c.requires in
    let kept = c.lower_all.auto in
    let room = room_for_sets ready.few_items in
    record { le_most_items = ready.few_items; in_bounds = omega (arith, kept.costs); in_bounds_2 = ready.rest_table.costs_for_all }

pub copy_entries-requires-2 : goal.copy_entries-requires-2
copy_entries-requires-2 c =
    let ready = c.requires in
    let kept = c.lower_all.auto in
    let room = room_for_sets ready.few_items in
    record { le_most_items = ready.few_items; in_bounds = omega (arith, kept.keys); in_bounds_2 = ready.rest_table.keys_for_all }

pub returns : goal.returns
returns c =
    let ready = c.requires in
    let moved = c.move_keys in
    let room = room_for_sets ready.few_items in
    core_added ready (omega (arith, moved.auto.moved)) moved.ensures
    (λ x h. get_or-replicate most_sets x no_cost 0 (lt_of_lt_of_le h room)) (λ x h. get_or-replicate most_sets x 0 0 (lt_of_lt_of_le h room))
    (rw c.sets_of.ensures at (c.lower_all.ensures c.args.items c.sets_of.ensures))
    c.copy_entries.ensures c.copy_entries-2.ensures
