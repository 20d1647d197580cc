use mathlib.Core.Path.{refl}
use Rattle.knapsack.specs.Offered.{offer_at}
use Rattle.values.specs.Items.{item_at}
use Rattle.light.specs.Picks.{with_level}
use Rattle.light.proofs.picks.first_cheapest.Goals as goal

pub loop-l-init : goal.loop-l-init
unfolding item_at
loop-l-init c = c.refused-picked.ensures _ _ _ refl refl

pub loop-l-preserved : goal.loop-l-preserved
unfolding offer_at
loop-l-preserved c = with_level _ _ c.loop-l.invariant refl refl refl c.cheaper-picked.ensures
