use Rattle.std.proofs.Common.{◌<◌, IfSome}
use Rattle.simplex.specs.declared.TheConstants.{MOST_ROWS}
use Rattle.simplex.proofs.Dictionary.leaving_row.Given as goal

abbrev pub invariant-loop-row : goal.invariant-loop-row
invariant-loop-row g l = IfSome l.leaving (λ row. row < MOST_ROWS)
