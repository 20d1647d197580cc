-- `fill_weights` makes each weight from that of half the set's number.
use Rattle.partition.specs.Moves.{WeightsBelow}
use Rattle.partition.proofs.cores.fill_weights.Given as goal

abbrev pub invariant-loop-x : goal.invariant-loop-x
invariant-loop-x l = WeightsBelow l.items l.x l.weights
