use Prim.Native.Nat.{suc, ◌-◌}
use mathlib.Core.Logic.{inl, inr}
use mathlib.Core.Path.{◌≡◌, ap, ◌∙◌}
use native.Mathlib.Omega.{arith}
use borrow.Author.Tests.{leb-false}
use Rattle.lagrangian.specs.TimedCores.{timing_at}
use Rattle.timed_sets.specs.PartnerColumns.{number_at, number_of}
use Rattle.timed_sets.proofs.order.is_in_order.Goals as goal

pub returns-then-is_due_sooner : goal.returns-then-is_due_sooner
unfolding timing_at
returns-then-is_due_sooner c = λ is. record {
  partner = c.in-Some.partner;
  is_partner = number_at c.args.partners.now c.args.node.item ∙ ap number_of c.in-Some.is;
  turned = inr (record { due_sooner = c.is_due_sooner.ensures.j_bound c.if-is_due_sooner.true; more_ticks = leb-false _ _ is });
}

pub returns : goal.returns
unfolding timing_at
returns c =
    let item = c.args.node.item in
    let partner = c.in-Some.partner in
    let between : item - partner - 1 ≡ item - suc partner = omega arith in
    λ is. record {
      partner = partner;
      is_partner = number_at c.args.partners.now item ∙ ap number_of c.in-Some.is;
      turned = inl (record {
        due_no_sooner = c.is_due_sooner.ensures.i_bound c.if-is_due_sooner.false;
        higher = rw (← between, ← c.choice_at.ensures) (leb-false _ _ is);
        no_more_ticks = omega arith;
      });
    }
