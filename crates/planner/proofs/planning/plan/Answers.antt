use Rattle.std.specs.Prelude.{Err}
use Rattle.std.proofs.Common.{◌≡◌, refl, rules}
use Rattle.instance.specs.ReadLaws.{read_holds_problem, refused_read_refuses_words}
use Rattle.planner.specs.PlanLaws.{given_outcome_is_promised, given_reading}
use Rattle.planner.proofs.planning.plan.Goals as goal

pub returns-in_err-inst : goal.returns-in_err-inst
returns-in_err-inst c =
    let e : c.from_residual.result ≡ Err c.in_err-inst.field-0.0 = search rules in
    let refuses = refused_read_refuses_words _ c.in_err-inst.ensures.value in
    let all = given_outcome_is_promised _ _ _ _ _ _ (given_reading _ _ _ refuses refl) in
    rw e (record { value = all.0; plan_after = all.1.0; table_after = all.1.1.0; promise = all.1.1.1 })

pub plan_read-requires : goal.plan_read-requires
plan_read-requires c = (read_holds_problem _ c.in_ok-inst.ensures.value).sound

pub returns : goal.returns
returns c =
    let held = read_holds_problem _ c.in_ok-inst.ensures.value in
    let all = given_outcome_is_promised _ _ _ _ _ _ (given_reading _ _ _ held.problem c.plan_read.ensures) in
    record { value = all.0; plan_after = all.1.0; table_after = all.1.1.0; promise = all.1.1.1 }
