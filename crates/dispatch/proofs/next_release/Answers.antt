-- Between a tick and the next multiple of the period there is no other.
use native.Mathlib.Omega.{arith}
use borrow.Author.Rules.{rules}
use native.Mathlib.Nat.{mod-lt}
use Rattle.dispatch.specs.ReleaseLaws.{next_multiple}
use Rattle.dispatch.proofs.next_release.Goals as goal

pub returns-then-wait-end : goal.returns-then-wait-end
returns-then-wait-end c =
    let a = c.args in
    let above = c.requires.period_nonzero in record {
      upper_bound = search rules;
      lower_bound = (
        omega (arith, mod-lt a.tick above),
        λ u later sooner multiple. omega (arith, next_multiple a.period a.tick u above later multiple),
      );
    }

pub returns : goal.returns
returns c =
    let a = c.args in
    let above = c.requires.period_nonzero in record { upper_bound = search rules; lower_bound = (c.requires.tick_lt_end, λ u later sooner multiple. omega (arith, next_multiple a.period a.tick u above later multiple)) }
