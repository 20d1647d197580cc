use Rattle.listing_lines.specs.LinesPut.{all_to_put, room_next, room_last, ◌then◌, last_put}
use Rattle.listing_lines.proofs.bytes.Lines.field.Goals as goal

pub byte-requires : goal.byte-requires
byte-requires c = room_next _ (all_to_put c.requires)

pub number-requires : goal.number-requires
number-requires c = room_last (all_to_put c.requires then c.byte.ensures)

pub returns : goal.returns
returns c = last_put (all_to_put c.requires then c.byte.ensures) c.number.ensures
