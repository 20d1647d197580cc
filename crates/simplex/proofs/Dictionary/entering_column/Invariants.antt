use Rattle.std.proofs.Common.{◌<◌, IfSome}
use Rattle.simplex.specs.declared.TheConstants.{MOST_COLUMNS}
use Rattle.simplex.proofs.Dictionary.entering_column.Given as goal

abbrev pub invariant-loop-column : goal.invariant-loop-column
invariant-loop-column g l = IfSome l.entering (λ column. column < MOST_COLUMNS)
