use Rattle.listing_lines.specs.LinesPut.{all_to_put, room_next, room_last, ◌then◌, last_put}
use Rattle.listing_lines.specs.Lines.{bytes, ended, line}
use Rattle.listing_lines.specs.ListingLines.{kept_line}
use Rattle.listing_lines.proofs.bytes.Lines.kept.Goals as goal

pub named-requires : goal.named-requires
unfolding bytes ended line kept_line
named-requires c = room_next _ (all_to_put c.requires)

pub named-requires-2 : goal.named-requires-2
unfolding bytes ended line kept_line
named-requires-2 c = room_next _ (all_to_put c.requires then c.named.ensures)

pub named-requires-3 : goal.named-requires-3
unfolding bytes ended line kept_line
named-requires-3 c = room_next _ (all_to_put c.requires then c.named.ensures then c.named-2.ensures)

pub named-requires-4 : goal.named-requires-4
unfolding bytes ended line kept_line
named-requires-4 c = room_next _ (all_to_put c.requires then c.named.ensures then c.named-2.ensures then c.named-3.ensures)

pub byte-requires : goal.byte-requires
unfolding bytes ended line kept_line
byte-requires c = room_last (all_to_put c.requires then c.named.ensures then c.named-2.ensures then c.named-3.ensures then c.named-4.ensures)

pub returns : goal.returns
unfolding bytes ended line kept_line
returns c = last_put (all_to_put c.requires then c.named.ensures then c.named-2.ensures then c.named-3.ensures then c.named-4.ensures) c.byte.ensures
