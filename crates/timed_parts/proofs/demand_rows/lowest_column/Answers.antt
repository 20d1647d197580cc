use mathlib.Core.Path.{◌≡◌, ◌∙◌}
use native.Mathlib.Omega.{arith}
use Rattle.timed_parts.proofs.Bits.{times_no_bit, times_bit_at_most}
use Rattle.timed_parts.specs.DemandRowLaws.{front_column, one_open_more}
use Rattle.timed_parts.proofs.demand_rows.lowest_column.Goals as goal

pub loop-item-init : goal.loop-item-init
loop-item-init c = front_column c.requires.2

pub loop-item-preserved : goal.loop-item-preserved
loop-item-preserved c =
    let at = c.loop-item in
    let ticks = c.ticks_in_set.ensures in
    one_open_more at.invariant at.auto.item (omega arith) (rw ticks (times_bit_at_most _ _ (omega arith)))
    (λ none. ticks ∙ times_no_bit _ _ none)

pub returns : goal.returns
returns c =
    let at = c.loop-item in
    let all : at.item ≡ c.args.timed.items = omega arith in
    rw all at at.invariant
