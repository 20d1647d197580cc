use mathlib.Core.Path.{sym, ◌∙◌}
use Rattle.values.specs.WorthLaws.{min_is_lesser}
use Rattle.timed_sets.specs.WholeLaws.{found_met, found_unmet, lesser_small}
use Rattle.timed_sets.proofs.search.with_whole.Goals as goal

pub is_admitted-requires : goal.is_admitted-requires
is_admitted-requires c =
    record { timed_items = c.requires.timed_items; ticks_len = c.requires.ticks_len }

pub returns-then-is_admitted : goal.returns-then-is_admitted
returns-then-is_admitted c =
    let few = c.requires.timed_items.few_items in record { by_index = λ cost partners q T whole stands. found_met few whole (c.min.ensures ∙ min_is_lesser _ _) q T stands (sym c.if-is_admitted.true ∙ c.is_admitted.ensures cost q T stands); small_worth = λ small best. lesser_small c.args.timed _ _ _ (c.min.ensures ∙ min_is_lesser _ _) small best }

pub returns : goal.returns
returns c =
    let few = c.requires.timed_items.few_items in record { by_index = λ cost partners q T whole stands. found_unmet few whole q T stands (sym c.if-is_admitted.false ∙ c.is_admitted.ensures cost q T stands); small_worth = λ small best. best }
