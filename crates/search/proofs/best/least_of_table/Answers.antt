-- `least_of_table` fills the table of the lower cores; the upper cores have the table of one core, or the same table.
use mathlib.Core.Path.{◌∙◌}
use native.Mathlib.Nat.{le_refl}
use native.Mathlib.Omega.{arith}
use Rattle.partition.specs.Tables.{most_sets}
use Rattle.search.specs.ChosenTables.{lower_ready, core_above_ready, table_above_ready, alone_chosen, core_above_chosen, table_above_chosen}
use Rattle.search.proofs.best.least_of_table.Goals as goal

pub fill_best-requires : goal.fill_best-requires
fill_best-requires c = lower_ready c.requires (le_refl most_sets) (le_refl most_sets)

pub returns-then-above-eq0 : goal.returns-then-above-eq0
returns-then-above-eq0 c =
    c.least_on_one.ensures ∙ alone_chosen c.requires c.fill_best.ensures.best_filled (omega (arith, c.if-above-eq0.true))

pub least_over_halves-requires : goal.least_over_halves-requires
least_over_halves-requires c = core_above_ready c.requires c.fill_best.ensures.best_filled

pub least_over_equal_halves-requires : goal.least_over_equal_halves-requires
least_over_equal_halves-requires c = table_above_ready c.requires c.fill_best.ensures.best_filled

pub returns : goal.returns
returns c =
    c.least_over_equal_halves.ensures ∙ table_above_chosen c.requires c.fill_best.ensures.best_filled c.if-above-eq0.false c.if-above-eq1.false

pub returns-then-above-eq1 : goal.returns-then-above-eq1
returns-then-above-eq1 c =
    c.least_over_halves.ensures ∙ core_above_chosen c.requires c.fill_best.ensures.best_filled c.if-above-eq1.true
