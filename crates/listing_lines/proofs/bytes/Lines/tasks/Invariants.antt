use Rattle.instance.specs.Held.{problem_in}
use Rattle.instance.specs.Node.{task_count}
use Rattle.listing_lines.specs.LinesPut.{PartsDone}
use Rattle.listing_lines.specs.ListingLines.{task_line}
use Rattle.listing_lines.proofs.bytes.Lines.tasks.Given as goal

abbrev pub invariant-loop-i : goal.invariant-loop-i
invariant-loop-i l = PartsDone (task_line (problem_in l.inst) l.plan) (task_count (problem_in l.inst)) l.initial.self l.self l.i
