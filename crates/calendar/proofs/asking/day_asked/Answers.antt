-- `asking::day_asked` meets its contract.
use mathlib.Core.Path.{sym, ◌∙◌}
use Rattle.calendar.specs.HoursLaws.{question_iff}
use Rattle.calendar.proofs.asking.day_asked.Goals as goal

pub day_number-requires : goal.day_number-requires
day_number-requires c = ((question_iff _ _).0 (sym c.is_question.ensures ∙ c.if-is_question.true)).dated.within_century

pub returns-then-is_question : goal.returns-then-is_question
returns-then-is_question c = (sym c.is_question.ensures ∙ c.if-is_question.true, c.day_number.ensures)

pub returns : goal.returns
returns c = sym c.is_question.ensures ∙ c.if-is_question.false
