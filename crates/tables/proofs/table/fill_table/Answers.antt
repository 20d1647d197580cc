use Prim.Native.Nat.{◌+◌, ◌*◌, ◌≤◌, ◌<◌}
use mathlib.Core.Path.{◌≡◌, ap, ◌∙◌}
use native.Mathlib.Omega.{arith}
use lib.ListN.{length}
use borrow.Author.Rules.{rules}
use Rattle.laws.specs.PartLaws.{length_part}
use Rattle.instance.specs.Held.{problem_in, held_span}
use Rattle.tables.specs.HeldTables.{row_within_table, no_rows_onto, all_rows_onto, length_rows_onto, row_onto}
use Rattle.tables.proofs.table.fill_table.Goals as goal
use Rattle.tables.proofs.table.fill_table.Goals.{After-loop-k, At-loop-k, In-loop-k}

cores_at_most : (c : goal.At-loop-k) → c.loop-k.k ≤ (problem_in c.args.inst).cores
unfolding problem_in
cores_at_most c = c.loop-k.invariant.0

core_below : (c : goal.In-loop-k) → c.loop-k.k < (problem_in c.args.inst).cores
unfolding problem_in
core_below c = omega (arith, c.loop-k-test.true, c.requires.sound.valid.cores.at_least)

all_cores : (c : goal.After-loop-k) → c.loop-k.k ≡ (problem_in c.args.inst).cores
unfolding problem_in
all_cores c = omega arith

same_length_so_far : (c : goal.At-loop-k) → length c.loop-k.table ≡ length c.args.table.now
same_length_so_far c =
    let start = c in
    ap length c.loop-k.invariant.1 ∙ length_rows_onto _ _ _ _ (cores_at_most c) start.requires.inst_in_bounds

row_fits : (c : goal.In-loop-k) →
    let inst = c.args.inst in
    c.loop-k.k * inst.span + inst.span ≤ length c.loop-k.table
unfolding problem_in
row_fits c =
    let start = c in
    let at_most : c.loop-k.k ≤ (problem_in c.args.inst).cores = c.loop-k.invariant.0 in
    let same = ap length c.loop-k.invariant.1 ∙ length_rows_onto _ _ _ _ at_most start.requires.inst_in_bounds in
    row_within_table _ _ _ _ (held_span _ start.requires.sound) (omega (arith, start.requires.inst_in_bounds, same)) (core_below c)

pub loop-k-init : goal.loop-k-init
loop-k-init c = (search rules, no_rows_onto _ _ _)

pub overflow_mul-from : goal.overflow_mul-from
overflow_mul-from c = omega (arith, row_fits (goal.at.overflow_mul-from c).In-loop-k, same_length_so_far (goal.at.overflow_mul-from c).At-loop-k)

pub overflow_add-to : goal.overflow_add-to
overflow_add-to c = omega (arith, row_fits (goal.at.overflow_add-to c).In-loop-k, same_length_so_far (goal.at.overflow_add-to c).At-loop-k)

pub slice_bounds-fill_core-count : goal.slice_bounds-fill_core-count
slice_bounds-fill_core-count c = omega arith

pub slice_bounds-fill_core-end : goal.slice_bounds-fill_core-end
slice_bounds-fill_core-end c = row_fits (goal.at.slice_bounds-fill_core-end c).In-loop-k

pub fill_core-requires : goal.fill_core-requires
fill_core-requires c =
    let start = c in
    let at = c.loop-k in
    let its-length = length_part at.table (at.k * start.args.inst.span) start.args.inst.span (row_fits (goal.at.fill_core-requires c).In-loop-k) in
    record { sound = start.requires.sound; plan_len = start.requires.plan_len; slots_len_bound = omega (arith, its-length, held_span _ start.requires.sound, start.requires.sound.valid.span_at_most) }

pub loop-k-preserved : goal.loop-k-preserved
loop-k-preserved c =
    let start = c in
    let at = c.loop-k in
    let fits = row_fits (goal.at.loop-k-preserved c).In-loop-k in
    (search rules, row_onto _ _ _ _ _ _ _ (held_span _ start.requires.sound) at.invariant.1 fits c.fill_core.ensures)

pub shape_of-table : goal.shape_of-table
shape_of-table c = same_length_so_far (goal.at.shape_of-table c).At-loop-k

pub returns : goal.returns
returns c = c.loop-k.invariant.1 ∙ all_rows_onto _ _ _ _ (all_cores (goal.at.returns c).After-loop-k)
