-- `asking::is_question` meets its contract.
use mathlib.Core.Path.{sym, ◌∙◌}
use Rattle.std.specs.Prelude.{refl}
use Rattle.laws.specs.Truth.{false_not_true}
use Rattle.calendar.specs.Hours.{is_question}
use Rattle.calendar.specs.HoursLaws.{in_century_says}
use Rattle.calendar.proofs.asking.is_question.Goals.{then-in_century, else-in_century}
use Rattle.calendar.proofs.asking.is_question.Goals as goal

pub month_length-requires : goal.month_length-requires
month_length-requires c = (in_century_says _ (sym c.in_century.ensures ∙ c.if-in_century.true)).to_month

pub returns-then-date-month_length : goal.returns-then-date-month_length
unfolding is_question
returns-then-date-month_length c =
    elim c.if-in_century.branch [
      | then-in_century w ↦
          rw (← w.if-in_century.ensures, ← w.month_length.ensures, ← w.value-is, c.if-date-month_length.true)
      | else-in_century w ↦
          absurd (false_not_true refl (sym w.if-in_century.false ∙ sym w.value-is ∙ c.if-date-month_length.true))
    ]

pub returns-else-date-month_length : goal.returns-else-date-month_length
unfolding is_question
returns-else-date-month_length c =
    elim c.if-in_century.branch [
      | then-in_century w ↦
          rw (← w.if-in_century.ensures, ← w.month_length.ensures, ← w.value-is, c.if-date-month_length.false)
      | else-in_century w ↦
          rw (c.if-date-month_length.false, ← w.if-in_century.ensures)
    ]
