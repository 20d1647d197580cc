use Rattle.std.proofs.Common.{◌-◌}
use Rattle.timed_sets.proofs.given.+worth_along.Given as goal

abbrev pub decreases-worth_along : goal.decreases-worth_along
decreases-worth_along l = l.timed.items - l.node.item
