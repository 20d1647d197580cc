use Rattle.std.proofs.Common.{◌^◌, ◌≤◌, refl, arith, pow_mono}
use Rattle.set_tables.proofs.lifting.lift_all.Goals as goal

pub fill_sums-requires : goal.fill_sums-requires
fill_sums-requires c =
    let ready = c.requires.lift_ready in
    record { few_items = ready.few_items; places = ready.places; low = λ i. omega (arith, ready.low i); sums_for_all = pow_mono ready.few_items; empty = refl }

pub bounds-sums-x : goal.bounds-sums-x
bounds-sums-x c =
    let room : 2 ^ c.args.items ≤ 4096 = pow_mono c.requires.lift_ready.few_items in
    omega (arith, c.sets_of-all.ensures)
