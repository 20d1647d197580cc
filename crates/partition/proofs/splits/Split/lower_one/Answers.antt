-- One sum of each, of costs and of keys.
use Rattle.partition.specs.Splits.{sum_at}
use Rattle.partition.specs.SplitLaws.{lowered_at_one}
use Rattle.partition.proofs.splits.Split.lower_one.Goals as goal

pub returns : goal.returns
returns c =
    let p = c.args.parts.now in
    let sum = sum_at p.tops.now p.topkeys.now p.rests.now p.restkeys.now in
    lowered_at_one {sum = sum} (rw c.sum.ensures at c.lower.ensures)
