use Rattle.std.specs.Prelude.{Err}
use Rattle.std.proofs.Common.{◌≡◌, rules}
use mathlib.Core.Path.{refl}
use Rattle.checks.specs.EndingLaws.{check_is_promised}
use Rattle.checks.specs.Outcomes.{check_outcome}
use Rattle.instance.specs.ReadLaws.{read_holds_problem, refused_read_refuses_words}
use Rattle.checks.proofs.check.check_table.Goals as goal

pub returns-in_err-read_instance : goal.returns-in_err-read_instance
unfolding check_outcome
returns-in_err-read_instance c =
    let e : c.from_residual.result ≡ Err c.in_err-read_instance.field-0.0 = search rules in
    let all = check_is_promised _ _ _ _ (rw (refused_read_refuses_words _ c.in_err-read_instance.ensures.value) refl) in
    rw e (record { value = all.0; promise = all.1 })

pub table_passes-requires : goal.table_passes-requires
table_passes-requires c = (read_holds_problem _ c.in_ok-read_instance.ensures.value).sound

pub returns : goal.returns
unfolding check_outcome
returns c =
    let held = read_holds_problem _ c.in_ok-read_instance.ensures.value in
    let all = check_is_promised _ _ _ _ (rw held.problem c.table_passes.ensures) in
    record { value = all.0; promise = all.1 }
