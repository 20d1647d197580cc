-- One item more is three times the work.
use Prim.Native.Nat.{◌/◌}
use mathlib.Core.Path.{◌≡◌}
use native.Mathlib.Omega.{arith}
use Rattle.partition.specs.Splits.{sum_at}
use Rattle.partition.specs.SplitLaws.{lowered_one_more}
use Rattle.partition.proofs.splits.Split.lower_pair.Goals as goal

pub returns : goal.returns
returns c =
    let start = c in
    let a = start.args in
    let p = a.parts.now in
    let sum = sum_at p.tops.now p.topkeys.now p.rests.now p.restkeys.now in
    let half : a.self.size / 2 ≡ 1 = omega (arith, start.requires.size_value) in
    lowered_one_more a.self {sum = sum} half
    (rw c.in_neither.ensures at c.lower_one.ensures)
    (rw c.in_top.ensures at c.lower_one-2.ensures)
    (rw c.in_rest.ensures at c.lower_one-3.ensures)
