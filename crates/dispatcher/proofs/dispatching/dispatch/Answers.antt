use mathlib.Core.Path.{sym, ◌∙◌}
use Rattle.dispatcher.specs.EndingLaws.{dispatch_is_promised}
use Rattle.dispatcher.specs.PreparedLaws.{call_is_preparing_and_tick}
use Rattle.dispatcher.proofs.dispatching.dispatch.Goals as goal

pub returns-in-Err : goal.returns-in-Err
returns-in-Err c =
    let promised =
    dispatch_is_promised _ _ _ _ _ _
    (c.refused.ensures ∙ sym (call_is_preparing_and_tick _ _ _ _ c.in-Err.ensures c.args.state c.args.ended)) in
    record { value = promised.0; promise = promised.1 }

pub returns-in-Ok : goal.returns-in-Ok
returns-in-Ok c =
    let promised =
    dispatch_is_promised _ _ _ _ _ _
    (c.dispatch_core.ensures ∙ sym (call_is_preparing_and_tick _ _ _ _ c.in-Ok.ensures c.args.state c.args.ended)) in
    record { value = promised.0; promise = promised.1 }
