use Prim.Native.Nat.{◌+◌, ◌*◌, ◌≤◌}
use mathlib.Core.Path.{◌∙◌}
use native.Mathlib.Omega.{arith}
use lib.ListN.{length}
use Rattle.sleep.specs.HeldSleeps.{held_idle_at_most, held_row_within, held_row_at_most, held_core_slept}
use Rattle.sleep.proofs.reckoning.core_slept.Goals as goal
use Rattle.sleep.proofs.reckoning.core_slept.Goals.{Start}

row_fits : (c : goal.Start) → c.args.k * c.args.inst.span + c.args.inst.span ≤ length c.args.table.now
row_fits c = held_row_within _ c.requires.sound c.args.table.now _ c.requires.table_len c.requires.k_bound

pub overflow_mul-from : goal.overflow_mul-from
overflow_mul-from c = omega (arith, row_fits (goal.at.overflow_mul-from c).Start)

pub overflow_add-to : goal.overflow_add-to
overflow_add-to c = omega (arith, row_fits (goal.at.overflow_add-to c).Start)

pub slice_bounds-row_slept-end : goal.slice_bounds-row_slept-end
slice_bounds-row_slept-end c = row_fits (goal.at.slice_bounds-row_slept-end c).Start

pub row_slept-requires : goal.row_slept-requires
row_slept-requires c = let start = c in
    record { row_len_bound = held_row_at_most _ start.requires.sound _ _ start.requires.table_len start.requires.k_bound; idle_le_most_idle_power = held_idle_at_most _ start.requires.sound }

pub returns : goal.returns
returns c = let start = c in
    c.row_slept.ensures ∙ held_core_slept _ start.requires.sound _ _ start.requires.table_len start.requires.k_bound _ _
