use Rattle.std.proofs.Common.{rules}
use Rattle.towhepamu.specs.CallOutcomes.{text_slot_check_outcome}
use Rattle.towhepamu.proofs.checking.towhepamu_check_slots.Goals as goal

pub returns : goal.returns
unfolding text_slot_check_outcome
returns c = rw c.with_words.ensures.1.read (search rules)
