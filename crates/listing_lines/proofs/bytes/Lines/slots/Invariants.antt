use mathlib.Core.List.{◌∷◌}
use lib.ListN.{length, get_or}
use Rattle.text.specs.Decimal.{decimal}
use Rattle.listing_lines.specs.LinesPut.{PartsDone}
use Rattle.listing_lines.proofs.bytes.Lines.slots.Given as goal

abbrev pub invariant-loop-slot : goal.invariant-loop-slot
invariant-loop-slot l = PartsDone (λ k. 32 ∷ decimal (get_or l.slots k 0)) (length l.slots) l.initial.self l.self l.slot-index
