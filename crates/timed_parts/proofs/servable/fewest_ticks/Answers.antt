use native.Mathlib.Omega.{arith}
use Rattle.timed_parts.specs.ServableLaws.{at_first_level, at_one_level_more}
use Rattle.timed_parts.proofs.servable.fewest_ticks.Goals as goal

pub loop-level-init : goal.loop-level-init
loop-level-init c = at_first_level

pub loop-level-preserved : goal.loop-level-preserved
loop-level-preserved c = at_one_level_more c.loop-level.invariant (omega arith) (omega arith)

pub returns : goal.returns
returns c = record { at_most = λ l h. c.loop-level.invariant.at_most l (omega (arith, c.loop-level-test.false)) }
