use Rattle.std.specs.Prelude.{Err, ◌≡◌}
use Rattle.std.proofs.Common.{rules}
use mathlib.Core.Path.{refl, sym}
use Rattle.plan_rules.specs.AllowedPlanLaws.{choices_pass-iff}
use Rattle.plan_rules.specs.Plans.{plan_passes}
use Rattle.plan_rules.proofs.plan.plan_passes.Goals as goal

pub returns-in_err-choices_pass : goal.returns-in_err-choices_pass
unfolding plan_passes
returns-in_err-choices_pass c =
    let e : c.from_residual.result ≡ Err c.in_err-choices_pass.field-0.0 = search rules in
    rw (e, ← c.in_err-choices_pass.ensures) refl

pub cores_fit-requires : goal.cores_fit-requires
cores_fit-requires c = record { sound = c.requires; plan_len = ((choices_pass-iff _ _).0 (sym c.in_ok-choices_pass.ensures)).one_choice_per_task }

pub returns : goal.returns
unfolding plan_passes
returns c = rw (← c.in_ok-choices_pass.ensures) c.cores_fit.ensures
