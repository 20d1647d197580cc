use Rattle.std.specs.Prelude.{Err}
use Rattle.std.proofs.Common.{◌≡◌, refl, sym, ◌∙◌, length, length-take-le, rules}
use Rattle.towhepamu.specs.OwnPlanLaws.{tasks_at_most, refused_own_buffer_outcome_buffer, own_plan_is_bytes, own_plan_is_copied}
use Rattle.towhepamu.proofs.planning.plan_with_room.Goals as goal
use Rattle.towhepamu.proofs.planning.plan_with_room.Goals.{In_ok-price}

pub slice_bounds-front-end : goal.slice_bounds-front-end
slice_bounds-front-end c = tasks_at_most c.requires

pub slice_bounds-plan-end : goal.slice_bounds-plan-end
slice_bounds-plan-end c = sym (length-take-le _ _ (tasks_at_most c.requires))

planned_length : (c : goal.In_ok-price) → length c.plan.new.plan ≡ c.args.n
planned_length c = c.plan.auto.plan ∙ length-take-le _ _ (tasks_at_most c.requires)

pub returns-in_err-price : goal.returns-in_err-price
returns-in_err-price c =
    let e : c.from_residual.result ≡ Err c.in_err-price.field-0.0 = search rules in
    let planned = c.in_err-price.ensures in
    let outcome = refused_own_buffer_outcome_buffer _ _ _ _ _ c.requires (length-take-le _ _ (tasks_at_most c.requires))
    (planned.value, (planned.plan_after, planned.table_after)) refl
    in rw e (record { value = outcome.0; choices_after = outcome.1.0; table_after = outcome.1.1 })

pub bytes_of_words-requires-clause-byte_list : goal.bytes_of_words-requires-clause-byte_list
bytes_of_words-requires-clause-byte_list c =
    let planned = c.in_ok-price.ensures in
    own_plan_is_bytes _ _ _ _ _ c.requires (length-take-le _ _ (tasks_at_most c.requires))
    (planned.value, (planned.plan_after, planned.table_after)) refl _
    (planned_length (goal.at.bytes_of_words-requires-clause-byte_list c).In_ok-price)

pub returns : goal.returns
returns c =
    let planned = c.in_ok-price.ensures in
    let outcome = own_plan_is_copied _ _ _ _ _ c.requires (length-take-le _ _ (tasks_at_most c.requires))
    (planned.value, (planned.plan_after, planned.table_after)) refl _
    (planned_length (goal.at.returns c).In_ok-price) c.bytes_of_words.ensures
    in record { value = outcome.0; choices_after = outcome.1.0; table_after = outcome.1.1 }
