-- The columns are fit for the test of the demand, and their demand is the core's.
use mathlib.Core.Path.{sym, ◌∙◌}
use Rattle.std.proofs.Math.Bool.{not-not}
use Rattle.instance.specs.Held.{held_span}
use Rattle.plan_rules.specs.KeptDemandLaws.{kept_columns_of_span, length_front, unmet_tick_decides_fit}
use Rattle.plan_rules.proofs.plan.core_fits.Goals as goal

pub slice_bounds-unmet_tick-end : goal.slice_bounds-unmet_tick-end
slice_bounds-unmet_tick-end c =
    let columns = c.kept_tasks-kept.ensures in
    let v = c.requires.sound.valid in
    sym (length_front _ v _ _ _ columns _ columns.places.of_periods)

pub slice_bounds-unmet_tick-end-2 : goal.slice_bounds-unmet_tick-end-2
slice_bounds-unmet_tick-end-2 c =
    let columns = c.kept_tasks-kept.ensures in
    let v = c.requires.sound.valid in
    sym (length_front _ v _ _ _ columns _ columns.places.of_windows)

pub slice_bounds-unmet_tick-end-3 : goal.slice_bounds-unmet_tick-end-3
slice_bounds-unmet_tick-end-3 c =
    let columns = c.kept_tasks-kept.ensures in
    let v = c.requires.sound.valid in
    sym (length_front _ v _ _ _ columns _ columns.places.of_ticks)

pub unmet_tick-requires : goal.unmet_tick-requires
unmet_tick-requires c =
    let sound = c.requires.sound in
    let columns = c.kept_tasks-kept.ensures in
    kept_columns_of_span _ sound.valid _ _ _ columns _ (held_span _ sound)

pub returns : goal.returns
returns c =
    let sound = c.requires.sound in
    let columns = c.kept_tasks-kept.ensures in
    let fits = unmet_tick_decides_fit _ sound.valid _ _ _ columns _ _ (held_span _ sound) c.unmet_tick.ensures in
    sym (not-not c.is_none.result) ∙ (rw c.is_none.ensures at fits)
