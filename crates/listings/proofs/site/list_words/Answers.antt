use Rattle.std.specs.Prelude.{Err}
use Rattle.std.proofs.Common.{◌≡◌, ◌∙◌, rules}
use Rattle.instance.specs.ReadLaws.{read_holds_problem, refused_read_refuses_words}
use Rattle.listings.specs.OutcomeLaws.{refused_words_outcome, short_buffer_outcome, roomy_words_outcome}
use Rattle.listings.proofs.site.list_words.Goals as goal

pub returns-in_err-inst : goal.returns-in_err-inst
returns-in_err-inst c =
    let e : c.from_residual.result ≡ Err c.in_err-inst.field-0.0 = search rules in
    rw e (refused_words_outcome _ _ (refused_read_refuses_words _ c.in_err-inst.ensures.value))

pub returns-then-lent-lt-MOST_LISTING : goal.returns-then-lent-lt-MOST_LISTING
returns-then-lent-lt-MOST_LISTING c =
    short_buffer_outcome _ _ _ (read_holds_problem _ c.in_ok-inst.ensures.value) c.if-lent-lt-MOST_LISTING.true

pub put_best-requires-clause-holds_problem_of : goal.put_best-requires-clause-holds_problem_of
put_best-requires-clause-holds_problem_of c = read_holds_problem _ c.in_ok-inst.ensures.value

pub returns : goal.returns
returns c =
    c.put_best.ensures
    ∙ roomy_words_outcome _ _ _ (read_holds_problem _ c.in_ok-inst.ensures.value) c.if-lent-lt-MOST_LISTING.false
