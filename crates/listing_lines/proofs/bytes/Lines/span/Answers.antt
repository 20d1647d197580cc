use Rattle.listing_lines.specs.LinesPut.{all_to_put, room_next, room_last, ◌then◌, last_put}
use Rattle.listing_lines.specs.Lines.{bytes, ended, line}
use Rattle.listing_lines.specs.ListingLines.{numbers_line, span_line}
use Rattle.listing_lines.proofs.bytes.Lines.span.Goals as goal

pub named-requires : goal.named-requires
unfolding bytes ended line numbers_line span_line
named-requires c = room_next _ (all_to_put c.requires)

pub byte-requires : goal.byte-requires
unfolding bytes ended line numbers_line span_line
byte-requires c = room_last (all_to_put c.requires then c.named.ensures)

pub returns : goal.returns
unfolding bytes ended line numbers_line span_line
returns c = last_put (all_to_put c.requires then c.named.ensures) c.byte.ensures
