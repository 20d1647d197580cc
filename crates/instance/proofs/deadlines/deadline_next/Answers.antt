-- `deadlines::deadline_next` meets its contract.
use Rattle.std.proofs.Common.{◌≡◌, rules}
use Rattle.std.specs.Prelude.{Err}
use Rattle.formats.specs.ReaderLaws.{first_refused, then_takes, takes_done}
use Rattle.instance.specs.SiteFile.{with_deadline}
use Rattle.instance.proofs.deadlines.deadline_next.Goals as goal

pub returns-in_err-deadline : goal.returns-in_err-deadline
unfolding with_deadline
returns-in_err-deadline c =
    let e : c.from_residual.result ≡ Err c.in_err-deadline.field-0.0 = search rules in
    rw e (first_refused _ c.in_err-deadline.ensures.takes)

pub returns : goal.returns
unfolding with_deadline
returns c = then_takes _ c.in_ok-deadline.ensures.takes (takes_done _)
