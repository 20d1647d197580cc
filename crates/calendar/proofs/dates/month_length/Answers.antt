-- `dates::month_length` meets its contract.
use Prim.Native.Nat.{ℕ}
use mathlib.Core.List.{[], ◌∷◌}
use mathlib.Core.Path.{ap}
use lib.ListN.{get_or}
use Rattle.calendar.specs.Dates.{month_length}
use Rattle.calendar.proofs.dates.month_length.Goals as goal

pub returns : goal.returns
unfolding month_length
returns c =
    ap (λ (f : ℕ). get_or (0 ∷ 31 ∷ f ∷ 31 ∷ 30 ∷ 31 ∷ 30 ∷ 31 ∷ 31 ∷ 30 ∷ 31 ∷ 30 ∷ 31 ∷ []) c.args.month 0)
    c.february_length-february.ensures
