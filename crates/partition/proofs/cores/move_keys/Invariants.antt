-- `move_keys` fills the moved keys one after the other.
use Rattle.partition.specs.Moves.{MovedBelow}
use Rattle.partition.proofs.cores.move_keys.Given as goal

abbrev pub invariant-loop-x : goal.invariant-loop-x
invariant-loop-x l = MovedBelow l.items l.shift l.x l.keys l.moved
