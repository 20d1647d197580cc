use native.Mathlib.Omega.{arith}
use Rattle.partition.specs.RefusedLaws.{one_more_set}
use Rattle.partition.proofs.keeping.refuse_item.Goals as goal

pub loop-x-preserved : goal.loop-x-preserved
loop-x-preserved c =
    one_more_set c.requires c.loop-x.invariant (omega arith) c.lower.ensures
