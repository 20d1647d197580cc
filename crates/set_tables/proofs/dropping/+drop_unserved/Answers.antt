use mathlib.Core.Path.{refl, sym, ◌∙◌}
use native.Mathlib.Omega.{arith}
use Rattle.set_tables.specs.DroppingLaws.{with_next_below, without_next, with_next, largest_served, next_unserved, both_dropped}
use Rattle.set_tables.proofs.dropping.+drop_unserved.Goals as goal
use Rattle.set_tables.proofs.dropping.+drop_unserved.Goals.{After-sets_of-half}

pub returns-then-is_served : goal.returns-then-is_served
returns-then-is_served t c =
    largest_served c.requires.sets_from c.if-item-timed.false c.sets_of-half.ensures (sym c.is_served.ensures ∙ c.if-is_served.true)

pub drop_all-requires : goal.drop_all-requires
drop_all-requires t c =
    omega (arith, with_next_below c.requires.sets_from c.if-item-timed.false c.sets_of-half.ensures, c.requires.sets_from.costs_for_all, c.drop_unserved.ensures.places)

pub returns-then-not-is_served : goal.returns-then-not-is_served
returns-then-not-is_served t c =
    let ready = c.requires.sets_from in
    let more = c.if-item-timed.false in
    let is-half = c.sets_of-half.ensures in
    let unserved = sym c.is_served-2.ensures ∙ c.if-not-is_served.true in
    both_dropped ready more is-half c.drop_unserved.ensures (next_unserved ready more is-half unserved c.drop_all.ensures)

pub returns : goal.returns
returns t c =
    both_dropped c.requires.sets_from c.if-item-timed.false c.sets_of-half.ensures c.drop_unserved.ensures c.drop_unserved-2.ensures

pub drop_unserved-requires : goal.drop_unserved-requires
drop_unserved-requires t c =
    let asked = c.requires in
    let more = c.if-item-timed.false in
    (omega (arith, asked.sets_from.within, c.decreases), (asked.timed_items, (asked.column_len, (without_next asked.sets_from more c.sets_of-half.ensures refl, asked.set_value))))

pub drop_unserved-requires-2 : goal.drop_unserved-requires-2
drop_unserved-requires-2 t c =
    let asked = c.requires in
    let more = c.if-item-timed.false in
    let next = with_next asked.sets_from more c.sets_of-half.ensures c.drop_unserved.ensures.places in
    (omega (arith, asked.sets_from.within, c.decreases), (asked.timed_items, (asked.column_len, (next, sym c.is_served-2.ensures ∙ c.if-not-is_served.false))))
