use mathlib.Core.Path.{refl}
use borrow.Author.Tests.{not-false}
use Rattle.laws.specs.Truth.{false_not_true}
use Rattle.timed_sets.proofs.search.Search.is_promising.Goals as goal

pub returns-then-node-gt0 : goal.returns-then-node-gt0
returns-then-node-gt0 c =
    λ q T stands no. absurd (false_not_true no refl)

pub bound_comes_first-requires : goal.bound_comes_first-requires
bound_comes_first-requires c = record { ready = c.requires.ready; stands = c.requires.stands }

pub returns-then-not-bound_comes_first : goal.returns-then-not-bound_comes_first
returns-then-not-bound_comes_first c =
    λ q T stands no. c.bound_comes_first.ensures q T stands c.if-not-bound_comes_first.true

pub relaxed_is_cheaper-requires : goal.relaxed_is_cheaper-requires
relaxed_is_cheaper-requires c =
    let pre = c.requires in
    record { by_index = (_, _, pre.stands.0, pre.stands.1, pre.ready.timed_ready, pre.ready.bounds_hold.relaxation, pre.stands.2); cost_le_no_cost = pre.cost_le_no_cost }

pub returns-then-not-relaxed_is_cheaper : goal.returns-then-not-relaxed_is_cheaper
returns-then-not-relaxed_is_cheaper c =
    let ready = c.requires.ready in
    λ q T stands no. c.relaxed_is_cheaper.ensures _ _ q T ready.timed_ready ready.bounds_hold.relaxation stands c.if-not-relaxed_is_cheaper.true

pub is_overdue-requires : goal.is_overdue-requires
is_overdue-requires c =
    let pre = c.requires in
    (_, _, pre.stands.0, pre.stands.1, pre.ready.timed_ready.timed_items, pre.ready.demand_rows, pre.stands.2)

pub returns : goal.returns
returns c =
    let ready = c.requires.ready in
    λ q T stands no. c.is_overdue.ensures _ _ q T _ ready.timed_ready.timed_items ready.demand_rows stands (not-false _ no)
