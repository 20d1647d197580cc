-- `least_on_one` refuses in the table of one core, and reads the entry of all items.
use Rattle.partition.specs.HalvesLaws.{all_ready, least_on_one}
use Rattle.partition.proofs.halves.least_on_one.Goals as goal

pub refuse-requires : goal.refuse-requires
refuse-requires c =
    all_ready c.requires c.sets_of-all.ensures

pub returns : goal.returns
returns c =
    least_on_one c.requires c.sets_of-all.ensures c.refuse.ensures
