-- `search_up_to` searches a set up to a limit, and stores what it found.
use Rattle.raising.specs.SiteLaws.{lower_for_sets}
use Rattle.raising.specs.TriedLaws.{set_tried}
use Rattle.raising.proofs.table.Table.search_up_to.Goals as goal

pub least_up_to-found-requires-clause-bounds_hold : goal.least_up_to-found-requires-clause-bounds_hold
least_up_to-found-requires-clause-bounds_hold c =
    let pre = c.requires in
    rw c.timed.ensures (record { table = lower_for_sets c.args.offer.now.ready pre.raised; relaxation = pre.relaxes })

pub returns : goal.returns
returns c =
    let pre = c.requires in
    let offer = c.args.offer.now in
    let found = rw c.timed.ensures at c.least_up_to-found.ensures in
    set_tried offer.ready offer.weighed pre.raised pre.set_bound pre.limit_of found.small_worth_2 c.left_after.ensures
    c.key_after.ensures (λ unkeyed. (c.wants_key-keyed.ensures unkeyed).1) found.found_up_to found.cost_up_to
