-- `drop_unserved` drops sets without the next item, and sets with it. The measure is the number of the items that may be added.
use Rattle.std.proofs.Common.{◌-◌}
use Rattle.set_tables.proofs.dropping.+drop_unserved.Given as goal

abbrev pub decreases-drop_unserved : goal.decreases-drop_unserved
decreases-drop_unserved l = l.timed.items - l.item
