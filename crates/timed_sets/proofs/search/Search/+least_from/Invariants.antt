use Rattle.std.proofs.Common.{◌+◌, ◌-◌, ◌*◌}
use Rattle.timed_sets.proofs.search.Search.+least_from.Given as goal

abbrev pub decreases-least_from : goal.decreases-least_from
decreases-least_from l =
    let bounded = l.self.now.bounded in
    (bounded.timed.items - l.node.item) * 9 + (bounded.timed.levels - l.node.level) + (bounded.timed.items - bounded.relaxed.fixed)
