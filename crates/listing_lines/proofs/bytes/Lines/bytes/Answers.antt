use Rattle.std.specs.Prelude.{refl}
use Rattle.listing_lines.specs.Placing.{put_copied}
use Rattle.listing_lines.proofs.bytes.Lines.bytes.Goals as goal

pub returns : goal.returns
returns c = record { put = put_copied _ _ _ c.copy_from_slice.ensures.after; same_buffer = refl }
