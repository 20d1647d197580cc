use Rattle.std.specs.Prelude.{Err}
use Rattle.std.proofs.Common.{◌≡◌, rules}
use mathlib.Core.Path.{refl}
use Rattle.instance.specs.ReadLaws.{read_holds_problem, refused_read_refuses_words}
use Rattle.sleep.specs.EndingLaws.{sleep_is_promised}
use Rattle.sleep.specs.Outcomes.{sleep_outcome}
use Rattle.sleep.proofs.reckoning.sleep.Goals as goal

pub sleep_read-requires : goal.sleep_read-requires
sleep_read-requires c = (read_holds_problem _ c.in_ok-read_instance.ensures.value).sound

pub returns-in_err-read_instance : goal.returns-in_err-read_instance
unfolding sleep_outcome
returns-in_err-read_instance c =
    let e : c.from_residual.result ≡ Err c.in_err-read_instance.field-0.0 = search rules in
    let all =
    sleep_is_promised _ _ _ _ _ _ _ _ _ _
    (rw (refused_read_refuses_words _ c.in_err-read_instance.ensures.value)
    (record { same_answer = refl; same_energies = refl; same_sleeps = refl })) in
    rw e (record { value = all.0; energies_after = all.1.0; sleeps_after = all.1.1.0; promise = all.1.1.1 })

pub returns : goal.returns
unfolding sleep_outcome
returns c =
    let held = read_holds_problem _ c.in_ok-read_instance.ensures.value in
    let all = sleep_is_promised _ _ _ _ _ _ _ _ _ _ (rw held.problem c.sleep_read.ensures) in
    record { value = all.0; energies_after = all.1.0; sleeps_after = all.1.1.0; promise = all.1.1.1 }
