use Rattle.std.proofs.Common.{rules}
use Rattle.towhepamu.specs.CallOutcomes.{text_plan_at_outcome}
use Rattle.towhepamu.proofs.hours.towhepamu_calendar.Goals as goal

pub returns : goal.returns
unfolding text_plan_at_outcome
returns c = rw c.with_words.ensures.1.read (search rules)
