-- `least_charged` charges a copy of the table, and searches it.
use Rattle.raising.specs.Rounds.{charged_ready}
use Rattle.raising.specs.SiteLaws.{ready_for_round}
use Rattle.raising.proofs.table.Table.least_charged.Goals as goal

pub least_of_table-requires : goal.least_of_table-requires
least_of_table-requires c =
    let offer = c.args.offer.now in
    let charged = c.charge_idle_once in
    rw c.shape.ensures (charged_ready (ready_for_round offer.ready offer.refusals c.requires) charged.ensures charged.auto.costs)
