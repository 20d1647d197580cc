-- `tasks::penalty_next` meets its contract: a word that is no must task's is tested.
use Rattle.std.specs.Prelude.{Err}
use Rattle.std.proofs.Common.{◌≡◌, rules}
use mathlib.Core.Path.{sym, ◌∙◌}
use native.Mathlib.Omega.{arith}
use borrow.Author.Tests.{le-leb, lt-leb}
use Rattle.std.proofs.Common.{inl, inr}
use Rattle.formats.specs.ReaderLaws.{passing_refused, passing_passes, passing_fails}
use Rattle.ranges.specs.Limits
use Rattle.instance.specs.RangeLaws.{in_range_between, in_range_is_penalty, penalty_in_range, other_is_penalty}
use Rattle.instance.specs.SiteFile.{is_penalty}
use Rattle.instance.proofs.tasks.penalty_next.Goals as goal

pub returns-in_err-penalty : goal.returns-in_err-penalty
returns-in_err-penalty c =
    let e : c.from_residual.result ≡ Err c.in_err-penalty.field-0.0 = search rules in
    rw e
    (passing_refused 1 Limits.may_not_be_refused is_penalty (λ w is. in_range_between (penalty_in_range is)) c.in_err-penalty.ensures.takes)

pub returns-then-penalty : goal.returns-then-penalty
returns-then-penalty c =
    rw (← c.if-penalty.true)
    (passing_passes 1 Limits.may_not_be_refused is_penalty (λ w is. in_range_between (penalty_in_range is)) c.in_ok-penalty.ensures.takes
    (in_range_is_penalty (inr c.if-penalty.true)))

pub returns-then-penalty-gt-MOST_PENALTY : goal.returns-then-penalty-gt-MOST_PENALTY
returns-then-penalty-gt-MOST_PENALTY c =
    rw c.place-first.ensures
    (passing_fails 1 Limits.may_not_be_refused is_penalty (λ w is. in_range_between (penalty_in_range is)) c.in_ok-penalty.ensures.takes
    (sym (other_is_penalty _ c.in_ok-penalty.ensures.within.0 c.if-penalty.false) ∙ lt-leb _ _ c.if-penalty-gt-MOST_PENALTY.true))

pub returns : goal.returns
returns c =
    passing_passes 1 Limits.may_not_be_refused is_penalty (λ w is. in_range_between (penalty_in_range is)) c.in_ok-penalty.ensures.takes
    (sym (other_is_penalty _ c.in_ok-penalty.ensures.within.0 c.if-penalty.false) ∙ le-leb _ _ c.if-penalty-gt-MOST_PENALTY.false)
