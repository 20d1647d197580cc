use Rattle.listing_lines.specs.LinesPut.{all_to_put, room_next, room_last, ◌then◌, last_put}
use Rattle.listing_lines.specs.Lines.{bytes, ended, line}
use Rattle.listing_lines.specs.ListingLines.{numbers_line}
use Rattle.listing_lines.proofs.bytes.Lines.refusal.Goals as goal

pub named-requires : goal.named-requires
unfolding bytes ended line numbers_line
named-requires c = room_next _ (all_to_put c.requires)

pub field-requires : goal.field-requires
unfolding bytes ended line numbers_line
field-requires c = room_next _ (all_to_put c.requires then c.named.ensures)

pub byte-requires : goal.byte-requires
unfolding bytes ended line numbers_line
byte-requires c = room_last (all_to_put c.requires then c.named.ensures then c.field.ensures)

pub returns : goal.returns
unfolding bytes ended line numbers_line
returns c = last_put (all_to_put c.requires then c.named.ensures then c.field.ensures) c.byte.ensures
