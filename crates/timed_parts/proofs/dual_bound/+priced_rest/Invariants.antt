use Rattle.std.proofs.Common.{◌-◌}
use Rattle.timed_parts.proofs.dual_bound.+priced_rest.Given as goal

abbrev pub decreases-priced_rest : goal.decreases-priced_rest
decreases-priced_rest l = l.items - l.item
