-- `list_next` puts one list behind the others.
use Rattle.std.proofs.Common.{add-one}
use Rattle.choice_lists.specs.ListedSetSteps.{used_there, set_fits, sets_step}
use Rattle.choice_lists.proofs.lists.list_next.Goals as goal

pub overflow_sub-points : goal.overflow_sub-points
overflow_sub-points c = rw c.sets_of.ensures (used_there c.requires)

pub list_set-requires : goal.list_set-requires
list_set-requires c =
    let is = c.sets_of.ensures in
    rw (is, add-one) (set_fits c.requires (rw add-one at c.most_points.ensures) (rw is at c.if-points-used.false))

pub returns : goal.returns
returns c =
    let is = c.sets_of.ensures in
    rw (is, add-one) (sets_step c.requires (rw (is, add-one) at c.list_set.ensures))
