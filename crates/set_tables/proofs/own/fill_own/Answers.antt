-- `fill_own` has the sums of all sets, and none where a set is not served so.
use Rattle.timed_parts.specs.ServableLaws.{no_items_served}
use Rattle.set_tables.specs.DroppingLaws.{all_sets_dropped}
use Rattle.set_tables.specs.OwnPatternLaws.{own_table}
use Rattle.set_tables.proofs.own.fill_own.Goals as goal

pub returns : goal.returns
returns c =
    let pre = c.requires in
    own_table pre.timed_ready pre.le_levels c.of-own.ensures c.fill_sums.ensures c.fill_sums-2.ensures
    (all_sets_dropped c.drop_unserved.ensures)

pub drop_unserved-requires-clause-set_value : goal.drop_unserved-requires-clause-set_value
drop_unserved-requires-clause-set_value c = no_items_served _ _ _
