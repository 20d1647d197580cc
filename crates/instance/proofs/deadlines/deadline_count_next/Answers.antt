-- `deadlines::deadline_count_next` meets its contract: a word up to the number of tasks is tested.
use Rattle.std.specs.Prelude.{Err}
use Rattle.std.proofs.Common.{◌≡◌, rules}
use mathlib.Core.Path.{sym, ◌∙◌}
use Rattle.formats.specs.ReaderLaws.{passing_refused, passing_passes, passing_fails}
use Rattle.instance.specs.RangeLaws.{in_range_between, deadline_count_in_range}
use Rattle.instance.specs.SiteFile.{is_deadline_count}
use Rattle.instance.proofs.deadlines.deadline_count_next.Goals as goal

pub returns-in_err-count : goal.returns-in_err-count
returns-in_err-count c =
    let e : c.from_residual.result ≡ Err c.in_err-count.field-0.0 = search rules in
    rw e
    (passing_refused 0 c.args.tasks (is_deadline_count c.args.tasks) (λ w is. in_range_between (deadline_count_in_range is)) c.in_err-count.ensures.takes)

pub returns-then-not-is_deadline_count : goal.returns-then-not-is_deadline_count
returns-then-not-is_deadline_count c =
    rw c.place-first.ensures
    (passing_fails 0 c.args.tasks (is_deadline_count c.args.tasks) (λ w is. in_range_between (deadline_count_in_range is)) c.in_ok-count.ensures.takes
    (sym c.is_deadline_count.ensures ∙ c.if-not-is_deadline_count.true))

pub returns : goal.returns
returns c =
    passing_passes 0 c.args.tasks (is_deadline_count c.args.tasks) (λ w is. in_range_between (deadline_count_in_range is)) c.in_ok-count.ensures.takes
    (sym c.is_deadline_count.ensures ∙ c.if-not-is_deadline_count.false)
