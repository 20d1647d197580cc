use Rattle.std.proofs.Common.{◌∙◌, arith}
use Rattle.partition.specs.RefuseSteps.{half_of_sets, without_ready, with_ready, item_ready, nothing_refused, item_kept, item_refused}
use Rattle.partition.proofs.keeping.+refuse.Goals as goal

pub returns-then-size-eq1 : goal.returns-then-size-eq1
returns-then-size-eq1 t c = nothing_refused c.if-size-eq1.true

pub refuse-requires : goal.refuse-requires
refuse-requires t c =
    let more = c.if-size-eq1.false in
    (omega (arith, half_of_sets c.requires more, c.decreases), without_ready c.requires more)

pub refuse-requires-2 : goal.refuse-requires-2
refuse-requires-2 t c =
    let kept = c.refuse.auto in
    let more = c.if-size-eq1.false in
    (omega (arith, half_of_sets c.requires more, c.decreases), with_ready c.requires more c.refuse.ensures kept.costs kept.keys)

pub returns-then-must-i : goal.returns-then-must-i
returns-then-must-i t c = item_kept c.if-size-eq1.false c.refuse.ensures c.refuse-2.ensures c.if-must-i.true

pub refuse_item-requires : goal.refuse_item-requires
refuse_item-requires t c =
    let first = c.refuse.auto in
    let second = c.refuse-2.auto in
    item_ready c.requires c.if-size-eq1.false c.refuse.ensures c.refuse-2.ensures (second.costs ∙ first.costs) (second.keys ∙ first.keys)

pub returns : goal.returns
returns t c = item_refused c.if-size-eq1.false c.refuse.ensures c.refuse-2.ensures c.if-must-i.false c.refuse_item.ensures
