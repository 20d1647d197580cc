use Rattle.instance.specs.Held.{problem_in}
use Rattle.listing_lines.specs.LinesPut.{PartsDone}
use Rattle.listing_lines.specs.ListingLines.{core_line}
use Rattle.listing_lines.proofs.bytes.Lines.cores.Given as goal

abbrev pub invariant-loop-k : goal.invariant-loop-k
invariant-loop-k l = PartsDone (core_line (problem_in l.inst) l.table) (problem_in l.inst).cores l.initial.self l.self l.k
