use mathlib.Core.Path.{◌∙◌}
use native.Mathlib.Omega.{arith}
use Rattle.instance.specs.Held.{held_levelcount, held_span}
use Rattle.instance.specs.SpanLaws.{span_above_zero}
use Rattle.refusals.specs.declared.Refusal.TheVariants.{GivenTable}
use Rattle.checks.specs.Checks.{slots_pass}
use Rattle.plan_rules.specs.HeldQuantities.{level_count_above_zero}
use Rattle.checks.specs.HeldSlots.{slots_named_is_slots_pass}
use Rattle.refusals.specs.VerdictLaws.{other_length_is_refused}
use Rattle.checks.proofs.slots.slots_pass.Goals as goal

pub slots_named-requires : goal.slots_named-requires
slots_named-requires c = let s = c.requires in
    record { levels_nonzero = level_count_above_zero _ s; span_nonzero = omega (arith, held_span _ s, span_above_zero s.valid) }

pub returns-then-table-size : goal.returns-then-table-size
returns-then-table-size c = let s = c.requires in
    c.slots_named.ensures
    ∙ slots_named_is_slots_pass _ _ _ _ _ (held_levelcount _ s) (held_span _ s) (c.if-table-size.true ∙ c.table_size-size.ensures)

pub returns : goal.returns
unfolding slots_pass
returns c = rw c.min.ensures
    (other_length_is_refused GivenTable _ _ c.table_size-size.ensures _ _ c.if-table-size.false)
