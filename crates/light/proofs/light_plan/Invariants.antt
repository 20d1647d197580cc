-- `light_plan` adds the pick of one item a turn, as long as core 0 takes them.
use Rattle.light.specs.Light.{LightBelow}
use Rattle.light.proofs.light_plan.Given as goal

abbrev pub invariant-loop-i : goal.invariant-loop-i
invariant-loop-i l = LightBelow l.core.levels l.core.capacity l.load l.cost l.refusal l.must l.i l.used l.total l.key
