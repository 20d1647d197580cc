-- `write_plan` writes one digit after the other, from the first.
use mathlib.Core.Path.{◌≡◌}
use lib.ListN.{length}
use Rattle.search.specs.PlanLaws.{PlanWritten}
use Rattle.search.proofs.plan.write_plan.Given as goal

abbrev pub invariant-loop-i : goal.invariant-loop-i
invariant-loop-i l = (length l.plan ≡ length l.initial.plan) × PlanWritten l.items l.key l.initial.plan l.plan l.power l.rest l.i
