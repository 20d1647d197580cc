-- `lift` keeps a table of lower values one.
use Rattle.raising.specs.LiftedLaws.{site_lifted}
use Rattle.raising.proofs.table.Table.lift.Goals as goal

pub returns-clause-lifted : goal.returns-clause-lifted
returns-clause-lifted c = site_lifted c.args.offer.now.ready c.requires.relaxes c.requires.raised c.lift_all.ensures
