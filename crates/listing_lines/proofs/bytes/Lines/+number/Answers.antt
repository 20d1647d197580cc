use native.Mathlib.Omega.{arith}
use Rattle.text.specs.DecimalLaws.{decimal_of_digit, decimal_by_tens}
use Rattle.listing_lines.specs.LinesPut.{all_to_put, room_next, room_last, ◌then◌, last_put}
use Rattle.listing_lines.proofs.bytes.Lines.+number.Goals as goal

pub byte-requires : goal.byte-requires
byte-requires t c = rw (decimal_of_digit _ c.if-n-lt10.true) at c.requires

pub returns-then-n-lt10 : goal.returns-then-n-lt10
returns-then-n-lt10 t c = rw (decimal_of_digit _ c.if-n-lt10.true) c.byte.ensures

pub number-requires : goal.number-requires
number-requires t c =
    (omega (arith, c.decreases), room_next _ (all_to_put (rw (decimal_by_tens _ c.if-n-lt10.false) at c.requires)))

pub byte-requires-2 : goal.byte-requires-2
byte-requires-2 t c = room_last (all_to_put (rw (decimal_by_tens _ c.if-n-lt10.false) at c.requires) then c.number.ensures)

pub returns : goal.returns
returns t c =
    rw (decimal_by_tens _ c.if-n-lt10.false)
    (last_put (all_to_put (rw (decimal_by_tens _ c.if-n-lt10.false) at c.requires) then c.number.ensures) c.byte-2.ensures)
