use Rattle.std.specs.Prelude.{Err}
use Rattle.std.proofs.Common.{◌≡◌, rules}
use mathlib.Core.Path.{refl}
use Rattle.checks.specs.EndingLaws.{slot_check_is_promised}
use Rattle.checks.specs.Outcomes.{slot_check_outcome}
use Rattle.instance.specs.ReadLaws.{read_holds_problem, refused_read_refuses_words}
use Rattle.checks.proofs.slots.check_slots.Goals as goal

pub returns-in_err-read_instance : goal.returns-in_err-read_instance
unfolding slot_check_outcome
returns-in_err-read_instance c =
    let e : c.from_residual.result ≡ Err c.in_err-read_instance.field-0.0 = search rules in
    let all = slot_check_is_promised _ _ _ _ (rw (refused_read_refuses_words _ c.in_err-read_instance.ensures.value) refl) in
    rw e (record { value = all.0; promise = all.1 })

pub slot_check-requires : goal.slot_check-requires
slot_check-requires c = (read_holds_problem _ c.in_ok-read_instance.ensures.value).sound

pub returns : goal.returns
unfolding slot_check_outcome
returns c =
    let held = read_holds_problem _ c.in_ok-read_instance.ensures.value in
    let all = slot_check_is_promised _ _ _ _ (rw held.problem c.slot_check.ensures) in
    record { value = all.0; promise = all.1 }
