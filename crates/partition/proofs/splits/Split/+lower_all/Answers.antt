use Rattle.std.proofs.Common.{refl, sym, ◌∙◌, arith}
use Rattle.partition.specs.NoSplitLaws.{nothing_lowered}
use Rattle.partition.specs.Splits.{sum_at}
use Rattle.partition.specs.SplitLaws.{lowered_one_more, same_power, half_is_power, half_below, neither_ready, top_ready, rest_ready}
use Rattle.partition.proofs.splits.Split.+lower_all.Goals as goal

pub returns-then-has_no_split : goal.returns-then-has_no_split
returns-then-has_no_split t c =
    let p = c.args.parts.now in
    nothing_lowered c.args.self _ p.topkeys.now _ p.restkeys.now _ _ (c.has_no_split.ensures c.if-has_no_split.true)

pub returns-then-self-eq4 : goal.returns-then-self-eq4
returns-then-self-eq4 t c = λ k is_power. rw (same_power 2 k (sym c.if-self-eq4.true ∙ is_power)) c.lower_four.ensures

pub returns-then-self-eq2 : goal.returns-then-self-eq2
returns-then-self-eq2 t c = λ k is_power. rw (same_power 1 k (sym c.if-self-eq2.true ∙ is_power)) c.lower_pair.ensures

pub returns-then-self-eq1 : goal.returns-then-self-eq1
returns-then-self-eq1 t c = λ k is_power. rw (same_power 0 k (sym c.if-self-eq1.true ∙ is_power)) c.lower_one.ensures

pub lower_all-requires : goal.lower_all-requires
lower_all-requires t c =
    let ready = c.requires in
    let more = c.if-self-eq1.false in
    rw c.in_neither.ensures (omega (arith, half_below ready more, c.decreases), neither_ready ready more refl refl)

pub lower_all-requires-else-self-eq1 : goal.lower_all-requires-else-self-eq1
lower_all-requires-else-self-eq1 t c =
    let ready = c.requires in
    let more = c.if-self-eq1.false in
    let first = c.lower_all.auto in
    rw c.in_top.ensures (omega (arith, half_below ready more, c.decreases), top_ready ready more first.costs first.keys)

pub lower_all-requires-else-self-eq1-2 : goal.lower_all-requires-else-self-eq1-2
lower_all-requires-else-self-eq1-2 t c =
    let ready = c.requires in
    let more = c.if-self-eq1.false in
    let first = c.lower_all.auto in
    let second = c.lower_all-else-self-eq1.auto in
    rw c.in_rest.ensures
    (omega (arith, half_below ready more, c.decreases), rest_ready ready more (second.costs ∙ first.costs) (second.keys ∙ first.keys))

pub returns-else-self-eq1 : goal.returns-else-self-eq1
returns-else-self-eq1 t c =
    let p = c.args.parts.now in
    λ k is_power.
    let (j, e, half) = half_is_power k is_power c.if-self-eq1.false in
    let sum = sum_at p.tops.now p.topkeys.now p.rests.now p.restkeys.now in
    rw e
    (lowered_one_more c.args.self {sum = sum} half
    (rw c.in_neither.ensures at c.lower_all.ensures j half)
    (rw c.in_top.ensures at c.lower_all-else-self-eq1.ensures j half)
    (rw c.in_rest.ensures at c.lower_all-else-self-eq1-2.ensures j half))
