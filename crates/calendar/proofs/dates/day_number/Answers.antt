-- `dates::day_number` meets its contract.
use Prim.Native.Nat.{ℕ, ◌+◌, ◌-◌}
use mathlib.Core.Path.{ap}
use native.Mathlib.Omega.{arith}
use Rattle.calendar.specs.DateLaws.{day_number_at_most}
use Rattle.calendar.specs.Dates.{day_number, month_index}
use Rattle.calendar.proofs.dates.day_number.Goals as goal

pub overflow_add-result : goal.overflow_add-result
unfolding day_number month_index
overflow_add-result c = omega (arith, day_number_at_most c.args.date c.requires)

pub returns : goal.returns
unfolding day_number month_index
returns c = ap (λ (f : ℕ). f + (c.args.date.day - 1)) c.first_day-first.ensures
