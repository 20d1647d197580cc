-- One item more is three times the work.
use Prim.Native.Nat.{◌/◌}
use mathlib.Core.Path.{◌≡◌, ◌∙◌}
use native.Mathlib.Omega.{arith}
use Rattle.partition.specs.Splits.{sum_at}
use Rattle.partition.specs.SplitLaws.{top_ready, rest_ready, lowered_one_more}
use Rattle.partition.proofs.splits.Split.lower_four.Goals as goal

pub lower_pair-requires-2 : goal.lower_pair-requires-2
lower_pair-requires-2 c =
    let start = c in
    let first = c.lower_pair.auto in
    rw c.in_top.ensures
    (record { size_value = omega (arith, start.requires.size_value); splits_ready = top_ready start.requires.splits_ready (omega (arith, start.requires.size_value)) first.costs first.keys })

pub lower_pair-requires-3 : goal.lower_pair-requires-3
lower_pair-requires-3 c =
    let start = c in
    let first = c.lower_pair.auto in
    let second = c.lower_pair-2.auto in
    rw c.in_rest.ensures
    (record { size_value = omega (arith, start.requires.size_value); splits_ready = rest_ready start.requires.splits_ready (omega (arith, start.requires.size_value)) (second.costs ∙ first.costs) (second.keys ∙ first.keys) })

pub returns : goal.returns
returns c =
    let start = c in
    let a = start.args in
    let p = a.parts.now in
    let sum = sum_at p.tops.now p.topkeys.now p.rests.now p.restkeys.now in
    let half : a.self.size / 2 ≡ 2 = omega (arith, start.requires.size_value) in
    lowered_one_more a.self {sum = sum} half
    (rw c.in_neither.ensures at c.lower_pair.ensures)
    (rw c.in_top.ensures at c.lower_pair-2.ensures)
    (rw c.in_rest.ensures at c.lower_pair-3.ensures)
