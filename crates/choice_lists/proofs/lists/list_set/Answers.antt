-- `list_set` appends to a short list what it spreads over a long one.
use Rattle.choice_lists.specs.ListedSetLaws.{set_appended, room_short}
use Rattle.choice_lists.proofs.lists.list_set.Goals as goal

pub returns-then-is_short : goal.returns-then-is_short
returns-then-is_short c = set_appended (room_short c.requires c.if-is_short.ensures) c.append_item.ensures
