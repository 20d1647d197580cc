use Rattle.std.specs.Prelude.{refl}
use Rattle.listing_lines.specs.Placing.{put_one}
use Rattle.listing_lines.proofs.bytes.Lines.byte.Goals as goal

pub returns : goal.returns
returns c = record { put = put_one _ _ _ c.requires.room; same_buffer = refl }
