-- `list_long` spreads the item over the list, and sweeps that to another.
use Rattle.choice_lists.specs.ListedSetLaws.{set_added}
use Rattle.choice_lists.specs.SpreadItems.{all_cleared}
use Rattle.choice_lists.proofs.long.list_long.Goals as goal

pub spread_item-requires-clause-cleared : goal.spread_item-requires-clause-cleared
spread_item-requires-clause-cleared c = all_cleared c.requires.item_fits.affordable.capacity_limited

pub returns : goal.returns
returns c =
    set_added c.requires.item_fits.there c.spread_item.ensures c.sweep.ensures
