use native.Mathlib.Omega.{arith}
use mathlib.Core.Path.{sym, ◌∙◌}
use Rattle.values.specs.WorthLaws.{less_not_first, not_first}
use Rattle.lagrangian.specs.FrontKeyLaws.{power_above_0}
use Rattle.timed_sets.specs.PromisingLaws.{rest_below, bound_cost_fits, bound_key_fits, none_to_come, bound_not_first}
use Rattle.timed_sets.proofs.search.Search.bound_comes_first.Goals as goal

pub offset_bounds-lowcosts-node : goal.offset_bounds-lowcosts-node
offset_bounds-lowcosts-node c =
    let pre = c.requires in omega (arith, rest_below pre.ready.bounds_hold.table pre.stands.2, pre.ready.bounds_hold.table.small.costs_for_all)

pub bounds-lowcosts-node : goal.bounds-lowcosts-node
bounds-lowcosts-node c =
    let pre = c.requires in omega (arith, rest_below pre.ready.bounds_hold.table pre.stands.2, pre.ready.bounds_hold.table.small.costs_for_all)

pub returns-then-low-ge-NO_COST : goal.returns-then-low-ge-NO_COST
returns-then-low-ge-NO_COST c =
    λ q T stands no. none_to_come c.requires.ready.bounds_hold.table stands (omega (arith, c.if-low-ge-NO_COST.true))

pub overflow_add-bound : goal.overflow_add-bound
overflow_add-bound c =
    let pre = c.requires in record { fits = bound_cost_fits pre.ready.bounds_hold.table pre.stands.2 _ (omega (arith, c.if-low-ge-NO_COST.false)) }

pub overflow_sub-timed : goal.overflow_sub-timed
overflow_sub-timed c =
    let pre = c.requires in omega (arith, pre.stands.2.behind)

pub keys_of-requires : goal.keys_of-requires
keys_of-requires c =
    let pre = c.requires in omega (arith, pre.ready.bounds_hold.table.few_items)

pub overflow_mul-bound : goal.overflow_mul-bound
overflow_mul-bound c =
    let pre = c.requires in
    record { fits = (bound_key_fits pre.ready.bounds_hold.table pre.stands.2 _ 0 c.keys_of.ensures (power_above_0 _)).0 }

pub offset_bounds-lowkeys-node : goal.offset_bounds-lowkeys-node
offset_bounds-lowkeys-node c =
    let pre = c.requires in omega (arith, rest_below pre.ready.bounds_hold.table pre.stands.2, pre.ready.bounds_hold.table.small.keys_for_all)

pub bounds-lowkeys-node : goal.bounds-lowkeys-node
bounds-lowkeys-node c =
    let pre = c.requires in omega (arith, rest_below pre.ready.bounds_hold.table pre.stands.2, pre.ready.bounds_hold.table.small.keys_for_all)

pub overflow_add-bound-2 : goal.overflow_add-bound-2
overflow_add-bound-2 c =
    let pre = c.requires in
    record { fits = (bound_key_fits pre.ready.bounds_hold.table pre.stands.2 _ _ c.keys_of.ensures (pre.ready.bounds_hold.table.small.key_bound_lem _ (rest_below pre.ready.bounds_hold.table pre.stands.2))).1 }

pub returns : goal.returns
returns c =
    λ q T stands no.
    bound_not_first c.requires.ready.bounds_hold.table stands (omega (arith, c.if-low-ge-NO_COST.false)) (rw (← c.keys_of.ensures) (not_first (less_not_first (sym c.lt.ensures ∙ no))))
