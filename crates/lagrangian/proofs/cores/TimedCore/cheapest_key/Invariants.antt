use Rattle.std.proofs.Common.{◌^◌, ◌<◌}
use Rattle.assignment.specs.Keys.{key_base}
use Rattle.lagrangian.proofs.cores.TimedCore.cheapest_key.Given as goal

abbrev pub invariant-loop-item : goal.invariant-loop-item
invariant-loop-item l = l.key < key_base ^ l.item
