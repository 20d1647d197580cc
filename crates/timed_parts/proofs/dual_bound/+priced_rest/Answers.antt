use Rattle.std.proofs.Common.{arith}
use Rattle.timed_parts.specs.DualBoundLaws.{none_left, rest_of_passed, rest_of_taken}
use Rattle.timed_parts.proofs.dual_bound.+priced_rest.Goals as goal

pub returns-then-item-items-clause-value : goal.returns-then-item-items-clause-value
returns-then-item-items-clause-value t c = none_left _ c.if-item-items.true

pub returns-then-rest-half-clause-value : goal.returns-then-rest-half-clause-value
returns-then-rest-half-clause-value t c =
    let end = c.if-item-items.false in
    let within = c.requires.item_le in
    rest_of_passed _ c.sets_of-half.ensures (omega arith) c.if-rest-half.true c.priced_rest.ensures.value

pub returns-clause-value : goal.returns-clause-value
returns-clause-value t c =
    let end = c.if-item-items.false in
    let within = c.requires.item_le in
    rest_of_taken _ c.sets_of-half.ensures (omega arith) (omega (arith, c.if-rest-half.false)) c.priced_rest-later.ensures.value
