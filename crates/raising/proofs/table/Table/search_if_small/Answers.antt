-- `search_if_small` searches a set, or leaves all as it is.
use native.Mathlib.Omega.{arith}
use Rattle.raising.specs.TriedLaws.{ready_for_limit}
use Rattle.raising.proofs.table.Table.search_if_small.Goals as goal

pub search_up_to-requires-clause-limit_of : goal.search_up_to-requires-clause-limit_of
search_up_to-requires-clause-limit_of c =
    let pre = c.requires in
    let offer = c.args.offer.now in
    c.first_limit-most.ensures _ _ (ready_for_limit offer.ready offer.weighed pre.raised pre.set_bound) (omega (arith, c.if-self-set-lt-KEY_TRY.false))
