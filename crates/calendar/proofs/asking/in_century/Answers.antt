-- `asking::in_century` meets its contract.
use Rattle.std.specs.Prelude.{refl}
use Rattle.std.proofs.Common.{sym, ◌∙◌}
use Rattle.laws.specs.Truth.{false_not_true}
use Rattle.calendar.specs.Hours.{in_century}
use Rattle.calendar.specs.HoursLaws.{contains_is_between}
use Rattle.calendar.proofs.asking.in_century.Goals.{then-contains, else-contains}
use Rattle.calendar.proofs.asking.in_century.Goals as goal

pub returns-then-contains-2 : goal.returns-then-contains-2
unfolding in_century
returns-then-contains-2 c =
    elim c.if-contains.branch [
      | then-contains w ↦
          let year = contains_is_between _ _ _ c.new.ensures.start c.new.ensures.end c.new.ensures.exhausted c.contains.ensures.value in
          let months = w.new-then-contains.ensures in
          let month = contains_is_between _ _ _ months.start months.end months.exhausted w.contains-then-contains.ensures.value in
          let days = c.new-then-contains-2.ensures in
          let day = contains_is_between _ _ _ days.start days.end days.exhausted c.contains-then-contains-2.ensures.value in
          rw (← year, w.if-contains.true, ← month, ← w.value-is, c.if-contains-2.true) day
      | else-contains w ↦
          absurd (false_not_true refl (sym w.if-contains.false ∙ sym w.value-is ∙ c.if-contains-2.true))
    ]

pub returns-else-contains-2 : goal.returns-else-contains-2
unfolding in_century
returns-else-contains-2 c =
    let year = contains_is_between _ _ _ c.new.ensures.start c.new.ensures.end c.new.ensures.exhausted c.contains.ensures.value in
    elim c.if-contains.branch [
      | then-contains w ↦
          let months = w.new-then-contains.ensures in
          let month = contains_is_between _ _ _ months.start months.end months.exhausted w.contains-then-contains.ensures.value in
          rw (← year, w.if-contains.true, ← month, ← w.value-is, c.if-contains-2.false)
      | else-contains w ↦
          rw (c.if-contains-2.false, ← year, w.if-contains.false)
    ]
