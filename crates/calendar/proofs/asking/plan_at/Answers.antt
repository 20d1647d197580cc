-- `asking::plan_at` meets its contract: what the entries and the end say holds of the whole list.
use Rattle.std.specs.Prelude.{Err}
use Rattle.std.proofs.Common.{◌≡◌, ◌∙◌, ap, rules}
use Rattle.std.specs.Option.{unwrap_or}
use Rattle.calendar.specs.HoursLaws.{answer_is_promised}
use Rattle.calendar.specs.SectionLaws.{entries_turned_down, words_left, no_question, question_answered}
use Rattle.calendar.proofs.asking.plan_at.Goals as goal

pub returns-in_err-ruled : goal.returns-in_err-ruled
returns-in_err-ruled c =
    let e : c.from_residual.result ≡ Err c.in_err-ruled.field-0.0 = search rules in
    let all = answer_is_promised _ _ _ _ (entries_turned_down _ _ _ (rw c.new-words.ensures at c.in_err-ruled.ensures)) in
    rw e (record { value = all.0; promise = all.1 })

pub returns-in_err-end : goal.returns-in_err-end
returns-in_err-end c =
    let e : c.from_residual-in_err-end.result ≡ Err c.in_err-end.field-0.0 = search rules in
    let all = answer_is_promised _ _ _ _ (words_left _ _ _ (rw c.new-words.ensures at c.in_ok-ruled.ensures) c.in_err-end.ensures) in
    rw e (record { value = all.0; promise = all.1 })

pub returns-in-Some : goal.returns-in-Some
returns-in-Some c =
    let asks = c.in-Some.ensures in
    let day = c.unwrap_or.ensures ∙ ap (λ o. unwrap_or o 0) c.in-Some.is ∙ asks.1 in
    let all = answer_is_promised _ _ _ _ (question_answered _ _ _ (rw c.new-words.ensures at c.in_ok-ruled.ensures) c.in_ok-end.ensures asks.0 day) in
    record { value = all.0; promise = all.1 }

pub returns-in-None : goal.returns-in-None
returns-in-None c =
    let all = answer_is_promised _ _ _ _ (no_question _ _ _ (rw c.new-words.ensures at c.in_ok-ruled.ensures) c.in_ok-end.ensures c.in-None.ensures) in
    record { value = all.0; promise = all.1 }
