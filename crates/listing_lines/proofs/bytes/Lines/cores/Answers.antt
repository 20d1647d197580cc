use Prim.Native.Nat.{◌<◌}
use native.Mathlib.Omega.{arith}
use Rattle.instance.specs.Held.{problem_in}
use Rattle.plan_rules.specs.HeldPlans.{held_cores}
use Rattle.listing_lines.specs.LinesPut.{none_done, room_for_part, part_done, all_done}
use Rattle.listing_lines.proofs.bytes.Lines.cores.Goals as goal

pub loop-k-init : goal.loop-k-init
loop-k-init c = none_done _ _ _

pub core-requires : goal.core-requires
core-requires c =
    let more : c.loop-k.k < (problem_in c.args.inst).cores = omega (arith, held_cores _ c.requires.sound) in
    record { sound = c.requires.sound; table_len = c.requires.table_len; k_bound = more; room = room_for_part c.requires.room c.loop-k.invariant more }

pub loop-k-preserved : goal.loop-k-preserved
loop-k-preserved c =
    let more : c.loop-k.k < (problem_in c.args.inst).cores = omega (arith, held_cores _ c.requires.sound) in
    part_done c.requires.room c.loop-k.invariant more c.core.ensures

pub returns : goal.returns
returns c = all_done c.requires.room c.loop-k.invariant (omega (arith, held_cores _ c.requires.sound))
