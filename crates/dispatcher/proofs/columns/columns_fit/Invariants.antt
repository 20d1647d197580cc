-- `columns_fit` has found the columns fit that it has passed.
use mathlib.Core.Bool.{true}
use mathlib.Core.Path.{◌≡◌}
use lib.ListN.{length}
use Rattle.laws.specs.Search.{every}
use Rattle.dispatcher.specs.Columns.{column_fits, number_before}
use Rattle.dispatcher.proofs.columns.columns_fit.Given as goal

abbrev pub invariant-loop-number : goal.invariant-loop-number
invariant-loop-number l =
    (length l.periods ≡ length l.numbers) × (l.before ≡ number_before l.numbers (length l.yielded))
    × (every (column_fits l.numbers l.periods) (length l.yielded) ≡ true)
