use mathlib.Core.Path.{refl, sym, ◌∙◌}
use Rattle.checks.specs.CheckLaws.{slot_check_accepts}
use Rattle.checks.specs.Checks.{check}
use Rattle.tables.specs.Periods.{valid_is_periodic}
use Rattle.checks.proofs.check.table_passes.Goals as goal

pub returns-in-Err : goal.returns-in-Err
unfolding check
returns-in-Err c = rw (← c.slot_check.ensures, c.in-Err.is) refl

pub jobs_pass-requires : goal.jobs_pass-requires
jobs_pass-requires c =
    let s = c.requires in
    let first = (slot_check_accepts _ (valid_is_periodic s.valid) _ _).0 (sym c.slot_check.ensures ∙ c.in-Ok.is) in
    record { sound = s; allowed_plan = first.0; table_len = first.1.table_length }

pub returns-in-Ok : goal.returns-in-Ok
unfolding check
returns-in-Ok c = rw (← c.slot_check.ensures, c.in-Ok.is) c.jobs_pass.ensures
