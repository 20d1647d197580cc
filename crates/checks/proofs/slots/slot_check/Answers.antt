use Rattle.std.specs.Prelude.{Err}
use Rattle.std.proofs.Common.{◌≡◌, rules}
use mathlib.Core.Path.{refl}
use Rattle.checks.specs.Checks.{slot_check}
use Rattle.checks.proofs.slots.slot_check.Goals as goal

pub returns-in_err-choices_pass : goal.returns-in_err-choices_pass
unfolding slot_check
returns-in_err-choices_pass c =
    let e : c.from_residual.result ≡ Err c.in_err-choices_pass.field-0.0 = search rules in
    rw (e, ← c.in_err-choices_pass.ensures) refl

pub returns : goal.returns
unfolding slot_check
returns c = rw (← c.in_ok-choices_pass.ensures) c.slots_pass.ensures
