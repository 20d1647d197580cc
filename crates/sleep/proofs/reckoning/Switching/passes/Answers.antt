use Rattle.sleep.specs.SwitchingLaws.{energy_out_of_range, time_out_of_range, both_in_range}
use Rattle.sleep.proofs.reckoning.Switching.passes.Goals as goal

pub returns-then-self-gt-MOST_SWITCHING_ENERGY : goal.returns-then-self-gt-MOST_SWITCHING_ENERGY
returns-then-self-gt-MOST_SWITCHING_ENERGY c = energy_out_of_range _ _ c.if-self-gt-MOST_SWITCHING_ENERGY.true

pub returns-then-self-gt-MOST_SWITCHING_TIME : goal.returns-then-self-gt-MOST_SWITCHING_TIME
returns-then-self-gt-MOST_SWITCHING_TIME c = time_out_of_range _ _ c.if-self-gt-MOST_SWITCHING_ENERGY.false c.if-self-gt-MOST_SWITCHING_TIME.true

pub returns : goal.returns
returns c = both_in_range _ _ c.if-self-gt-MOST_SWITCHING_ENERGY.false c.if-self-gt-MOST_SWITCHING_TIME.false
