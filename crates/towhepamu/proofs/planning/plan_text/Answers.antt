use Rattle.std.specs.Prelude.{Err}
use Rattle.std.proofs.Common.{◌≡◌, refl, arith, rules, sym, length-take-le}
use Rattle.text.specs.NumberCountLaws.{FrontIsText, text_is_refused, words_at_front}
use Rattle.towhepamu.specs.CallOutcomes.{text_plan_outcome}
use Rattle.towhepamu.proofs.planning.plan_text.Goals as goal
use Rattle.towhepamu.proofs.planning.plan_text.Goals.{In_ok-n}

front_is_text : (c : goal.In_ok-n) → FrontIsText c.args.text.now c.in_ok-n.n c.words_of_text.new.words
front_is_text c =
    let read = c.in_ok-n.ensures in words_at_front _ _ _ _ (omega arith) (read.value, (read.words_after, read.promise)) refl

pub slice_bounds-words-end : goal.slice_bounds-words-end
slice_bounds-words-end c = (front_is_text (goal.at.slice_bounds-words-end c).In_ok-n).within

pub slice_bounds-plan_words-end : goal.slice_bounds-plan_words-end
slice_bounds-plan_words-end c = sym (length-take-le _ _ (front_is_text (goal.at.slice_bounds-plan_words-end c).In_ok-n).within)

pub returns-in_err-n : goal.returns-in_err-n
unfolding text_plan_outcome
returns-in_err-n c =
    let e : c.from_residual.result ≡ Err c.in_err-n.field-0.0 = search rules in
    let read = c.in_err-n.ensures in
    rw (e, text_is_refused _ _ _ _ (omega arith) (read.value, (read.words_after, read.promise)) refl)
    (record { value = refl; plan_after = refl; table_after = refl })

pub returns : goal.returns
unfolding text_plan_outcome
returns c =
    let given = c.plan_words.ensures in
    rw (front_is_text (goal.at.returns c).In_ok-n).words_of_text
    (record { value = given.value; plan_after = given.choices_after; table_after = given.table_after })
