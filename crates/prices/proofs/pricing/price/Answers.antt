-- `price` answers what its outcome is.
use Rattle.std.specs.Prelude.{Ok, Err}
use Rattle.std.proofs.Common.{◌≡◌, rules}
use mathlib.Core.Path.{refl, sym, ap}
use Rattle.prices.specs.EndingLaws.{price_is_promised}
use Rattle.prices.specs.Outcomes.{price_outcome}
use Rattle.instance.specs.ReadLaws.{read_holds_problem, refused_read_refuses_words}
use Rattle.prices.proofs.pricing.price.Goals as goal

pub returns-in_err-inst : goal.returns-in_err-inst
unfolding price_outcome
returns-in_err-inst c =
    let e : c.from_residual.result ≡ Err c.in_err-inst.field-0.0 = search rules in
    let all = price_is_promised _ _ _ (rw (refused_read_refuses_words _ c.in_err-inst.ensures.value) refl) in
    rw e (record { value = all.0; promise = all.1 })

pub plan_passes-requires : goal.plan_passes-requires
plan_passes-requires c = (read_holds_problem _ c.in_ok-inst.ensures.value).sound

pub returns-in_err-plan_passes : goal.returns-in_err-plan_passes
unfolding price_outcome
returns-in_err-plan_passes c =
    let e : c.from_residual-in_err-plan_passes.result ≡ Err c.in_err-plan_passes.field-0.0 = search rules in
    let held = read_holds_problem _ c.in_ok-inst.ensures.value in
    let all = price_is_promised _ _ _ (rw (held.problem, ← c.in_err-plan_passes.ensures) refl) in
    rw e (record { value = all.0; promise = all.1 })

pub price_of-requires : goal.price_of-requires
price_of-requires c =
    record { sound = (read_holds_problem _ c.in_ok-inst.ensures.value).sound; plan_value = sym c.in_ok-plan_passes.ensures }

pub returns : goal.returns
unfolding price_outcome
returns c =
    let held = read_holds_problem _ c.in_ok-inst.ensures.value in
    let all = price_is_promised _ _ _ (rw (held.problem, ← c.in_ok-plan_passes.ensures) (ap Ok c.price_of.ensures)) in
    record { value = all.0; promise = all.1 }
