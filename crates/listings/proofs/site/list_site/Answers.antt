use Rattle.std.proofs.Common.{arith}
use Rattle.listings.specs.OutcomeLaws.{listed_is_printed, room_for_refusal, refusal_is_printed}
use Rattle.listings.proofs.site.list_site.Goals as goal

pub put_refusal-requires : goal.put_refusal-requires
put_refusal-requires c =
    let listed = c.list_plan.ensures in
    room_for_refusal _ _ (omega arith) listed.value listed.out_after c.in-Err.is

pub returns-in-Err : goal.returns-in-Err
returns-in-Err c =
    let listed = c.list_plan.ensures in
    let printed = refusal_is_printed _ _ (omega arith) listed.value listed.out_after c.in-Err.is c.put_refusal.ensures in
    record { value = printed.0; out_after = printed.1 }

pub returns-in-Ok : goal.returns-in-Ok
returns-in-Ok c =
    let listed = c.list_plan.ensures in
    let printed = listed_is_printed _ _ (omega arith) listed.value listed.out_after c.in-Ok.is in
    record { value = printed.0; out_after = printed.1 }
