use Rattle.std.proofs.Common.{rules}
use Rattle.towhepamu.specs.CallOutcomes.{text_dispatch_outcome}
use Rattle.towhepamu.proofs.dispatching.dispatch_text.Goals as goal

pub returns : goal.returns
unfolding text_dispatch_outcome
returns c = rw c.with_words.ensures.1.read (search rules)
