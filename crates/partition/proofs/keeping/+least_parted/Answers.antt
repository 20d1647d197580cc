use Rattle.std.proofs.Common.{◌/◌, ap, ap₂, sym, ◌∙◌, arith}
use Rattle.assignment.specs.Values.{lesser}
use Rattle.values.specs.Worths.{worth_of}
use Rattle.values.specs.WorthLaws.{lesser_worth-value}
use Rattle.partition.specs.Splits.{sum_at}
use Rattle.partition.specs.SplitLaws.{half_is_power}
use Rattle.partition.specs.PartedLaws.{parted_nothing, parted_either, half_of_parts, in_top_ready, in_rest_ready}
use Rattle.partition.proofs.keeping.+least_parted.Goals as goal

pub returns-then-size-eq1 : goal.returns-then-size-eq1
returns-then-size-eq1 t c =
    let p = c.args.parts.now in
    λ k is_power.
    c.sum.ensures
    ∙ parted_nothing (sum_at p.tops.now p.topkeys.now p.rests.now p.restkeys.now) c.args.t c.args.r k (sym c.if-size-eq1.true ∙ is_power)

pub least_parted-in_top-requires : goal.least_parted-in_top-requires
least_parted-in_top-requires t c =
    let more = c.if-size-eq1.false in
    (omega (arith, half_of_parts c.requires more, c.decreases), in_top_ready c.requires more)

pub least_parted-in_rest-requires : goal.least_parted-in_rest-requires
least_parted-in_rest-requires t c =
    let more = c.if-size-eq1.false in
    (omega (arith, half_of_parts c.requires more, c.decreases), in_rest_ready c.requires more)

pub returns : goal.returns
returns t c =
    let a = c.args in
    let p = a.parts.now in
    λ k is_power.
    let (j, e, half) = half_is_power k is_power c.if-size-eq1.false in
    rw e
    (ap worth_of (c.lesser.ensures) ∙ lesser_worth-value _ _
    ∙ ap₂ lesser (c.least_parted-in_top.ensures j half) (c.least_parted-in_rest.ensures j half)
    ∙ parted_either (sum_at p.tops.now p.topkeys.now p.rests.now p.restkeys.now) a.t a.r j (a.size / 2) half)
