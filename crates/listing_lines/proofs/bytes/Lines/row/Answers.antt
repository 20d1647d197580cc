use Rattle.listing_lines.specs.LinesPut.{all_to_put, room_next, room_last, ◌then◌, last_put}
use Rattle.listing_lines.specs.LineLaws.{numbers_line_parts}
use Rattle.listing_lines.specs.Lines.{bytes}
use Rattle.listing_lines.proofs.bytes.Lines.row.Goals as goal

pub named-requires : goal.named-requires
unfolding bytes
named-requires c = room_next _ (all_to_put (rw (numbers_line_parts "core" _ _) at c.requires))

pub slots-requires : goal.slots-requires
unfolding bytes
slots-requires c = room_next _ (all_to_put (rw (numbers_line_parts "core" _ _) at c.requires) then c.named.ensures)

pub byte-requires : goal.byte-requires
unfolding bytes
byte-requires c = room_last (all_to_put (rw (numbers_line_parts "core" _ _) at c.requires) then c.named.ensures then c.slots.ensures)

pub returns : goal.returns
unfolding bytes
returns c = rw (numbers_line_parts "core" _ _) (last_put (all_to_put (rw (numbers_line_parts "core" _ _) at c.requires) then c.named.ensures then c.slots.ensures) c.byte.ensures)
