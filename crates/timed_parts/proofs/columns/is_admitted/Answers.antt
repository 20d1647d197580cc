-- `is_admitted` tests the ticks of the node.
use mathlib.Core.Path.{sym, ◌∙◌}
use Rattle.std.proofs.Math.Bool.{not-not}
use Rattle.timed_parts.specs.ColumnLaws.{unmet_tick_admits}
use Rattle.timed_parts.proofs.columns.is_admitted.Goals as goal

pub returns : goal.returns
returns c = λ cost q T stands.
    let admits = unmet_tick_admits c.requires.timed_items stands c.unmet_of.ensures in
    sym (not-not c.is_none.result) ∙ (rw c.is_none.ensures at admits)
