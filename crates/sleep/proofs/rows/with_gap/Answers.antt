use Rattle.std.proofs.Common.{arith}
use Rattle.sleep.specs.RowWalkLaws.{gap_energy_at_most, gap_sleep_at_most}
use Rattle.sleep.proofs.rows.with_gap.Goals as goal

pub overflow_add-result : goal.overflow_add-result
overflow_add-result c = omega (arith, gap_energy_at_most c.gap_slept-further.ensures, c.requires.energy_bound)

pub overflow_add-result-2 : goal.overflow_add-result-2
overflow_add-result-2 c = omega (arith, gap_sleep_at_most c.gap_slept-further.ensures, c.requires.sleeps_bound)
