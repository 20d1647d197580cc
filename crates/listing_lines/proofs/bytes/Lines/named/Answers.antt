use Rattle.listing_lines.specs.LinesPut.{all_to_put, room_next, room_last, ◌then◌, last_put}
use Rattle.listing_lines.proofs.bytes.Lines.named.Goals as goal

pub bytes-requires : goal.bytes-requires
bytes-requires c = room_next _ (all_to_put c.requires)

pub field-requires : goal.field-requires
field-requires c = room_last (all_to_put c.requires then c.bytes.ensures)

pub returns : goal.returns
returns c = last_put (all_to_put c.requires then c.bytes.ensures) c.field.ensures
