use Rattle.std.proofs.Common.{◌∙◌, arith}
use Rattle.choice_lists.specs.ListedFront.{lists_stay, none_listed, sets_fit}
use Rattle.choice_lists.proofs.lists.list_items.Goals as goal

pub loop-c-init : goal.loop-c-init
loop-c-init c =
    let a = c.args in
    let fits = c.requires in
    let none = c.list_none.ensures in
    rw (none.points_after, none.starts_after) (none_listed a.n a.items a.points.now a.starts.now fits.some_points (omega (arith, fits.starts_long)))

pub list_sets-requires : goal.list_sets-requires
list_sets-requires c =
    let at = c.loop-c in
    let none = c.list_none.auto in
    rw c.front_at-front.ensures (sets_fit (lists_stay (at.auto.points ∙ none.points) (at.auto.starts ∙ none.starts) c.requires) (omega arith) at.invariant)
