use Rattle.listing_lines.specs.LineLaws.{refusal_line_lem}
use Rattle.std.proofs.Common.{rules}
use Rattle.listing_lines.specs.LinesPut.{put_at_end}
use Rattle.listing_lines.proofs.lines.put_refusal.Goals as goal

pub refusal-requires : goal.refusal-requires
refusal-requires c =
    record { room = rw (refusal_line_lem _ _ _ c.number.ensures c.place.ensures) at c.requires }

pub returns : goal.returns
returns c =
    rw (refusal_line_lem _ _ _ c.number.ensures c.place.ensures) (put_at_end c.refusal.ensures (search rules))
