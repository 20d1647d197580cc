use Rattle.std.specs.Prelude.{Err}
use Rattle.std.proofs.Common.{◌≡◌, arith, refl, rules, sym, ◌∙◌, take}
use Rattle.instance.specs.Held.{held_taskcount}
use Rattle.listings.specs.ListingLaws.{AtHand, front_within, no_plan_outcome, planned_at_hand, room_for_lines, lines_outcome}
use Rattle.listings.proofs.site.put_best.Goals as goal
use Rattle.listings.proofs.site.put_best.Goals.{After-table_size-size}

at_hand : (c : goal.After-table_size-size) →
    let inst = c.args.inst in
    let after = c.plan.new in
    AtHand inst c.in_ok-price.price (take inst.taskcount after.plan) (take c.table_size-size.result after.table)
at_hand c =
    let planned = c.in_ok-price.ensures in
    planned_at_hand _ _ c.requires.holds_problem_of _ _ (omega arith) (omega arith) _ planned.value _ _
    planned.plan_after planned.table_after refl _ c.table_size-size.ensures

pub returns-in_err-price : goal.returns-in_err-price
returns-in_err-price c =
    let e : c.from_residual.result ≡ Err c.in_err-price.field-0.0 = search rules in
    rw e (no_plan_outcome _ _ c.requires.holds_problem_of _ _ (omega arith) (omega arith) _ c.in_err-price.ensures.value _ refl)

pub slice_bounds-put_plan-end : goal.slice_bounds-put_plan-end
slice_bounds-put_plan-end c =
    let hand = at_hand (goal.at.slice_bounds-put_plan-end c).After-table_size-size in
    held_taskcount _ c.requires.holds_problem_of.sound ∙ sym hand.one_choice_per_task

pub slice_bounds-choices-end : goal.slice_bounds-choices-end
slice_bounds-choices-end c =
    let hand = at_hand (goal.at.slice_bounds-choices-end c).After-table_size-size in
    front_within _ _ (hand.one_choice_per_task ∙ sym (held_taskcount _ c.requires.holds_problem_of.sound))

pub put_plan-end-requires-clause-price_value : goal.put_plan-end-requires-clause-price_value
put_plan-end-requires-clause-price_value c =
    (at_hand (goal.at.put_plan-end-requires-clause-price_value c).After-table_size-size).its_price

pub put_plan-end-requires-clause-plan_len : goal.put_plan-end-requires-clause-plan_len
put_plan-end-requires-clause-plan_len c =
    (at_hand (goal.at.put_plan-end-requires-clause-plan_len c).After-table_size-size).one_choice_per_task

pub put_plan-end-requires-clause-room : goal.put_plan-end-requires-clause-room
put_plan-end-requires-clause-room c =
    let hand = at_hand (goal.at.put_plan-end-requires-clause-room c).After-table_size-size in
    room_for_lines hand _ c.requires.holds_problem_of.sound.valid c.requires.most_listing_in_bounds

pub returns : goal.returns
returns c = lines_outcome (at_hand (goal.at.returns c).After-table_size-size) _ c.put_plan-end.ensures
