use Rattle.listing_lines.specs.LinesPut.{all_to_put, room_next, room_last, ◌then◌, last_put}
use Rattle.listing_lines.specs.Lines.{bytes, ended, line}
use Rattle.listing_lines.specs.ListingLines.{refused_line}
use Rattle.listing_lines.proofs.bytes.Lines.refused.Goals as goal

pub named-requires : goal.named-requires
unfolding bytes ended line refused_line
named-requires c = room_next _ (all_to_put c.requires)

pub bytes-requires : goal.bytes-requires
unfolding bytes ended line refused_line
bytes-requires c = room_last (all_to_put c.requires then c.named.ensures)

pub returns : goal.returns
unfolding bytes ended line refused_line
returns c = last_put (all_to_put c.requires then c.named.ensures) c.bytes.ensures
