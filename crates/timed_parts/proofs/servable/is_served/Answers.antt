-- `is_served` tests the column of the set.
use mathlib.Core.Path.{sym, ◌∙◌}
use Rattle.std.proofs.Math.Bool.{not-not}
use Rattle.timed_parts.specs.ServableLaws.{unmet_tick_serves}
use Rattle.timed_parts.proofs.servable.is_served.Goals as goal

pub returns : goal.returns
returns c =
    let served = unmet_tick_serves _ _ _ c.column_of_set-of_set.ensures c.unmet_of.ensures in
    sym (not-not c.is_none.result) ∙ (rw c.is_none.ensures at served)
