use Rattle.listing_lines.specs.HeldLines.{held_plan_lines}
use Rattle.listing_lines.specs.LinesPut.{all_to_put, room_next, room_last, ◌then◌, last_put, put_at_end}
use Rattle.std.proofs.Common.{rules}
use Rattle.listing_lines.proofs.plans.put_plan.Goals as goal

pub span-requires : goal.span-requires
span-requires c =
    room_next _ (all_to_put (record { room = rw (held_plan_lines _ c.requires.sound _ _ _ c.requires.price_value) at c.requires.room }))

pub cost-requires : goal.cost-requires
cost-requires c =
    room_next _ (all_to_put (record { room = rw (held_plan_lines _ c.requires.sound _ _ _ c.requires.price_value) at c.requires.room }) then c.span.ensures)

pub tasks-requires : goal.tasks-requires
tasks-requires c =
    let left = all_to_put (record { room = rw (held_plan_lines _ c.requires.sound _ _ _ c.requires.price_value) at c.requires.room }) then c.span.ensures then c.cost.ensures in
    record { sound = c.requires.sound; plan_len = c.requires.plan_len; room = room_next _ left }

pub cores-requires : goal.cores-requires
cores-requires c =
    let left = all_to_put (record { room = rw (held_plan_lines _ c.requires.sound _ _ _ c.requires.price_value) at c.requires.room }) then c.span.ensures then c.cost.ensures then c.tasks.ensures in
    record { sound = c.requires.sound; table_len = c.requires.table_len; room = room_last left }

pub returns : goal.returns
returns c =
    let left = all_to_put (record { room = rw (held_plan_lines _ c.requires.sound _ _ _ c.requires.price_value) at c.requires.room }) then c.span.ensures then c.cost.ensures then c.tasks.ensures in
    let puts = last_put left c.cores.ensures in
    rw (held_plan_lines _ c.requires.sound _ _ _ c.requires.price_value) (put_at_end puts (search rules))
