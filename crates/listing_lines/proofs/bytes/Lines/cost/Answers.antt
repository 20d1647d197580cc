use Rattle.listing_lines.specs.LinesPut.{all_to_put, room_next, room_last, ◌then◌, last_put}
use Rattle.listing_lines.specs.Lines.{bytes, ended, line}
use Rattle.listing_lines.specs.ListingLines.{numbers_line, cost_line}
use Rattle.listing_lines.proofs.bytes.Lines.cost.Goals as goal

pub named-requires : goal.named-requires
unfolding bytes ended line numbers_line cost_line
named-requires c = room_next _ (all_to_put c.requires)

pub field-requires : goal.field-requires
unfolding bytes ended line numbers_line cost_line
field-requires c = room_next _ (all_to_put c.requires then c.named.ensures)

pub field-requires-2 : goal.field-requires-2
unfolding bytes ended line numbers_line cost_line
field-requires-2 c = room_next _ (all_to_put c.requires then c.named.ensures then c.field.ensures)

pub byte-requires : goal.byte-requires
unfolding bytes ended line numbers_line cost_line
byte-requires c = room_last (all_to_put c.requires then c.named.ensures then c.field.ensures then c.field-2.ensures)

pub returns : goal.returns
unfolding bytes ended line numbers_line cost_line
returns c = last_put (all_to_put c.requires then c.named.ensures then c.field.ensures then c.field-2.ensures) c.byte.ensures
