use Rattle.std.specs.Prelude.{Err}
use Rattle.std.proofs.Common.{◌≡◌, rules}
use mathlib.Core.Path.{refl, sym, ◌∙◌}
use native.Mathlib.Omega.{arith}
use Rattle.tables.specs.EndingLaws.{table_is_promised}
use Rattle.tables.specs.OutcomeLaws.{short_buffer_is_refused, plan_is_refused, table_is_written}
use Rattle.tables.specs.Outcomes.{table_outcome}
use Rattle.plan_rules.specs.PlanLaws.{passing_plan}
use Rattle.instance.specs.ReadLaws.{read_holds_problem, refused_read_refuses_words}
use Rattle.tables.proofs.table.tabulate.Goals as goal

pub returns-in_err-inst : goal.returns-in_err-inst
unfolding table_outcome
returns-in_err-inst c =
    let e : c.from_residual.result ≡ Err c.in_err-inst.field-0.0 = search rules in
    let all = table_is_promised _ _ _ _ _ (rw (refused_read_refuses_words _ c.in_err-inst.ensures.value) (refl, refl)) in
    rw e (record { value = all.0; table_after = all.1.0; promise = all.1.1 })

pub table_size-size-requires : goal.table_size-size-requires
table_size-size-requires c = (read_holds_problem _ c.in_ok-inst.ensures.value).sound

pub returns-then-table-size : goal.returns-then-table-size
unfolding table_outcome
returns-then-table-size c =
    let held = read_holds_problem _ c.in_ok-inst.ensures.value in
    let given = short_buffer_is_refused _ c.args.plan.now _ _ c.table_size-size.ensures c.if-table-size.true in
    let all = table_is_promised _ _ _ _ _ (rw held.problem (given.same_answer, given.same_table)) in
    record { value = all.0; table_after = all.1.0; promise = all.1.1 }

pub plan_passes-requires : goal.plan_passes-requires
plan_passes-requires c = (read_holds_problem _ c.in_ok-inst.ensures.value).sound

pub returns-in_err-plan_passes : goal.returns-in_err-plan_passes
unfolding table_outcome
returns-in_err-plan_passes c =
    let e : c.from_residual-in_err-plan_passes.result ≡ Err c.in_err-plan_passes.field-0.0 = search rules in
    let held = read_holds_problem _ c.in_ok-inst.ensures.value in
    let given = plan_is_refused _ _ _ (omega (arith, c.table_size-size.ensures, c.if-table-size.false)) (sym c.in_err-plan_passes.ensures) in
    let all = table_is_promised _ _ _ _ _ (rw held.problem (given.same_answer, given.same_table)) in
    rw e (record { value = all.0; table_after = all.1.0; promise = all.1.1 })

pub fill_table-requires : goal.fill_table-requires
fill_table-requires c =
    record {
      sound = (read_holds_problem _ c.in_ok-inst.ensures.value).sound;
      plan_len = (passing_plan _ _ (sym c.in_ok-plan_passes.ensures)).allowed.one_choice_per_task;
      inst_in_bounds = omega (arith, c.table_size-size.ensures, c.if-table-size.false);
    }

pub returns : goal.returns
unfolding table_outcome
returns c =
    let held = read_holds_problem _ c.in_ok-inst.ensures.value in
    let given = table_is_written _ _ _ (omega (arith, c.table_size-size.ensures, c.if-table-size.false)) (sym c.in_ok-plan_passes.ensures) in
    let all = table_is_promised _ _ _ _ _ (rw held.problem (given.same_answer, c.fill_table.ensures ∙ given.same_table)) in
    record { value = all.0; table_after = all.1.0; promise = all.1.1 }
