use Rattle.std.specs.Prelude.{Err}
use Rattle.std.proofs.Common.{◌≡◌, arith, rules, refl, sym, ap, length-take-le}
use Rattle.text.specs.NumberCountLaws.{FrontIsText, text_is_refused, words_at_front}
use Rattle.listings.specs.OutcomeLaws.{refused_text_outcome, read_text_outcome}
use Rattle.listings.specs.Outcomes.{ListOutcome}
use Rattle.listings.proofs.site.list_plan.Goals as goal
use Rattle.listings.proofs.site.list_plan.Goals.{In_ok-n}

front_is_text : (c : goal.In_ok-n) → FrontIsText c.args.text.now c.in_ok-n.n c.words_of_text.new.words
front_is_text c =
    let read = c.in_ok-n.ensures in words_at_front _ _ _ _ (omega arith) (read.value, (read.words_after, read.promise)) refl

pub returns-in_err-n : goal.returns-in_err-n
returns-in_err-n c =
    let e : c.from_residual.result ≡ Err c.in_err-n.field-0.0 = search rules in
    let read = c.in_err-n.ensures in
    let outcome = refused_text_outcome _ c.args.out.now (text_is_refused _ _ _ _ (omega arith) (read.value, (read.words_after, read.promise)) refl) in
    rw e (record { value = sym (ap (λ (o : ListOutcome). o.answer) outcome); out_after = sym (ap (λ (o : ListOutcome). o.out) outcome) })

pub slice_bounds-words-end : goal.slice_bounds-words-end
slice_bounds-words-end c = (front_is_text (goal.at.slice_bounds-words-end c).In_ok-n).within

pub slice_bounds-list_words-end : goal.slice_bounds-list_words-end
slice_bounds-list_words-end c = sym (length-take-le _ _ (front_is_text (goal.at.slice_bounds-list_words-end c).In_ok-n).within)

pub returns : goal.returns
returns c =
    let given = c.list_words.ensures in
    rw (read_text_outcome _ _ (front_is_text (goal.at.returns c).In_ok-n).words_of_text)
    (record { value = ap (λ (o : ListOutcome). o.answer) given; out_after = ap (λ (o : ListOutcome). o.out) given })
