-- `search_set` searches a set up to the limit of its next try.
use Rattle.raising.specs.TriedLaws.{ready_for_limit}
use Rattle.raising.proofs.table.Table.search_set.Goals as goal

pub limit_of-most-requires-clause-limit_ready : goal.limit_of-most-requires-clause-limit_ready
limit_of-most-requires-clause-limit_ready c =
    let offer = c.args.offer.now in
    ready_for_limit offer.ready offer.weighed c.requires.raised c.requires.set_bound
