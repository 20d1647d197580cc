use Rattle.std.specs.Prelude.{Err}
use Rattle.std.proofs.Common.{rules}
use Prim.Native.Nat.{pred, ◌-◌}
use mathlib.Core.Path.{◌≡◌, sym, ◌∙◌}
use native.Mathlib.Omega.{arith}
use Rattle.instance.specs.Held.{problem_in}
use Rattle.instance.specs.ReadLaws.{read_holds_problem, refused_read_refuses_words}
use Rattle.plan_rules.specs.PlanLaws.{passing_plan}
use Rattle.dispatcher.specs.PreparingLaws.{reading_is_refused, plan_is_refused, core_is_refused, core_is_prepared}
use Rattle.dispatcher.proofs.preparing.prepare.Goals as goal

pub returns-in_err-inst : goal.returns-in_err-inst
returns-in_err-inst c =
    let e : c.from_residual.result ≡ Err c.in_err-inst.field-0.0 = search rules in
    rw e (reading_is_refused _ _ _ _ (refused_read_refuses_words _ c.in_err-inst.ensures.value))

pub plan_passes-requires : goal.plan_passes-requires
plan_passes-requires c = (read_holds_problem _ c.in_ok-inst.ensures.value).sound

pub returns-in_err-plan_passes : goal.returns-in_err-plan_passes
returns-in_err-plan_passes c =
    let e : c.from_residual-in_err-plan_passes.result ≡ Err c.in_err-plan_passes.field-0.0 = search rules in
    rw e (plan_is_refused _ _ _ _ (read_holds_problem _ c.in_ok-inst.ensures.value).problem _ (sym c.in_err-plan_passes.ensures))

pub returns-then-not-is_core : goal.returns-then-not-is_core
unfolding problem_in
returns-then-not-is_core c =
    core_is_refused _ _ _ _ (read_holds_problem _ c.in_ok-inst.ensures.value).problem (sym c.in_ok-plan_passes.ensures)
    (sym c.is_core.ensures ∙ c.if-not-is_core.true)

pub columns_of-requires : goal.columns_of-requires
columns_of-requires c =
    record {
      sound = (read_holds_problem _ c.in_ok-inst.ensures.value).sound;
      plan_len = (passing_plan _ _ (sym c.in_ok-plan_passes.ensures)).allowed.one_choice_per_task;
    }

pub returns : goal.returns
unfolding problem_in
returns c =
    let core = c.args.core in
    let place : pred core ≡ core - 1 = omega arith in
    core_is_prepared _ _ _ _ (read_holds_problem _ c.in_ok-inst.ensures.value).problem (sym c.in_ok-plan_passes.ensures)
    (sym c.is_core.ensures ∙ c.if-not-is_core.false) _
    (rw place c.columns_of.ensures)
