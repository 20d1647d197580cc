use Prim.Native.Nat.{◌^◌, ◌≤◌}
use mathlib.Core.Path.{refl}
use native.Mathlib.Omega.{arith}
use lib.Pow.{pow_mono}
use Rattle.core_tables.specs.ChargedTables.{first_charged, free_charged, next_counted}
use Rattle.core_tables.proofs.charge_idle_once.Goals as goal

pub returns-then-whole-eq0 : goal.returns-then-whole-eq0
returns-then-whole-eq0 c = rw c.if-whole-eq0.true (free_charged _ _ _)

pub fill_sizes-requires-clause-in_bounds : goal.fill_sizes-requires-clause-in_bounds
fill_sizes-requires-clause-in_bounds c = pow_mono c.requires.few_items

pub loop-x-init : goal.loop-x-init
loop-x-init c =
    let a = c.args in
    (refl, first_charged a.items a.whole a.costs.now)

pub bounds-sizes-x : goal.bounds-sizes-x
bounds-sizes-x c =
    let room : 2 ^ c.args.items ≤ 4096 = pow_mono c.requires.few_items in
    omega arith

pub charged_cost-requires-clause-le_count : goal.charged_cost-requires-clause-le_count
charged_cost-requires-clause-le_count c =
    (next_counted c.fill_sizes.ensures c.loop-x.invariant.1 (omega arith) c.requires (omega arith)).0
