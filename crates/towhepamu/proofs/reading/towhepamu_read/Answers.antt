use Rattle.std.proofs.Common.{rules}
use Rattle.towhepamu.specs.CallOutcomes.{text_read_outcome}
use Rattle.towhepamu.proofs.reading.towhepamu_read.Goals as goal

pub returns : goal.returns
unfolding text_read_outcome
returns c = rw c.with_words.ensures.1.read (search rules)
