use mathlib.Core.Path.{refl}
use Rattle.offers.specs.OfferedOptions.{nothing_offered}
use Rattle.planner.proofs.best.best_choices.Goals as goal

pub fill_options-requires : goal.fill_options-requires
fill_options-requires c =
    record { sound = c.requires.sound; options_offered = nothing_offered _ _ _ _ _ refl refl refl refl }

pub best_in_time-requires : goal.best_in_time-requires
best_in_time-requires c =
    let pre = c.requires in record { sound = pre.sound; by_index = (_, c.fill_options.ensures); inst_in_bounds = pre.inst_in_bounds }

pub returns-then-is_early : goal.returns-then-is_early
returns-then-is_early c =
    c.best_in_time.ensures

pub best_by_load-requires : goal.best_by_load-requires
best_by_load-requires c =
    let pre = c.requires in record { sound = pre.sound; due_at_period_end = c.is_early.ensures c.if-is_early.false; options_offered = c.fill_options.ensures; inst_in_bounds = pre.inst_in_bounds }

pub returns : goal.returns
returns c =
    c.best_by_load.ensures
