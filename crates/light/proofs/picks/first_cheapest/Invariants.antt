-- `first_cheapest` lays one level a turn beside what it has picked.
use Rattle.knapsack.specs.Offered.{offer_at}
use Rattle.values.specs.Items.{item_at}
use Rattle.light.specs.Picks.{PickedBelow}
use Rattle.light.proofs.picks.first_cheapest.Given as goal

abbrev pub invariant-loop-l : goal.invariant-loop-l
invariant-loop-l l = PickedBelow l.capacity (offer_at l.load l.cost l.i) (item_at l.refusal l.must l.i) l.l l.picked
