use Rattle.std.specs.Prelude.{Err}
use Rattle.std.proofs.Common.{◌≡◌, rules}
use Rattle.instance.specs.ReadLaws.{read_holds_problem, refused_read_refuses_words}
use Rattle.towhepamu.specs.OwnPlanLaws.{refused_words_outcome, room_for_plan, short_plan_outcome}
use Rattle.towhepamu.proofs.planning.plan_words.Goals as goal

pub returns-in_err-n : goal.returns-in_err-n
returns-in_err-n c =
    let e : c.from_residual.result ≡ Err c.in_err-n.field-0.0 = search rules in
    let outcome = refused_words_outcome _ _ _ (refused_read_refuses_words _ c.in_err-n.ensures.value) in
    rw e (record { value = outcome.0; choices_after = outcome.1.0; table_after = outcome.1.1 })

pub returns-then-lent-n : goal.returns-then-lent-n
returns-then-lent-n c =
    let outcome = short_plan_outcome _ _ (read_holds_problem _ c.in_ok-n.ensures.value) _ _ c.if-lent-n.true in
    record { value = outcome.0; choices_after = outcome.1.0; table_after = outcome.1.1 }

pub plan_with_room-requires : goal.plan_with_room-requires
plan_with_room-requires c =
    room_for_plan _ _ (read_holds_problem _ c.in_ok-n.ensures.value) _ c.if-lent-n.false
