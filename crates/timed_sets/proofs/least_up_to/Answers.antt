use mathlib.Core.Path.{refl, ◌∙◌}
use Rattle.values.specs.WorthLaws.{min_is_lesser}
use Rattle.timed_sets.specs.FoundLaws.{found_from_one}
use Rattle.timed_sets.specs.SetTheorem.{start_stands, cost_up_to, found_up_to}
use Rattle.timed_sets.specs.WholeLaws.{lesser_small}
use Rattle.timed_sets.proofs.least_up_to.Goals as goal

pub worth_along-requires : goal.worth_along-requires
worth_along-requires c =
    let pre = c.requires in record { timed_ready = pre.timed_ready; by_index = start_stands _ _ _ _ pre.set_bound }

pub fill_rows-requires : goal.fill_rows-requires
fill_rows-requires c = record { timed_items = c.requires.timed_ready.timed_items; rows_len = refl }

pub partners_in-partners-requires : goal.partners_in-partners-requires
partners_in-partners-requires c = c.requires.timed_ready

pub least_from-requires : goal.least_from-requires
least_from-requires c =
    let pre = c.requires in
    let timed = c.args.bounded.timed in
    let small = lesser_small timed _ _ _ (c.min-best.ensures ∙ min_is_lesser _ _) c.worth_along.ensures.small_worth pre.small_worth in
    record {
      ready = record { timed_ready = pre.timed_ready; bounds_hold = pre.bounds_hold; demand_rows = c.fill_rows.ensures; partners = c.partners_in-partners.ensures.partners };
      stands = start_stands _ _ _ _ pre.set_bound;
      small_worth = small;
    }

pub returns : goal.returns
returns c =
    let pre = c.requires in
    let partners = c.partners_in-partners.ensures in
    let found = c.least_from.ensures in
    let one = (c.min-best.ensures ∙ min_is_lesser _ _) in
    let along = c.worth_along.ensures in record {
      found_up_to = λ keyed.
          found_up_to pre.timed_ready.timed_items partners.partners pre.set_bound found.small_worth_2
          (λ q T stands. found_from_one refl one (along.by_index_2 q T stands) (found.found q T stands)) (partners.due_no_sooner keyed);
      cost_up_to = cost_up_to pre.timed_ready.timed_items partners.partners pre.set_bound found.small_worth_2
          (λ q T stands. found_from_one refl one (along.by_index_2 q T stands) (found.found q T stands));
      small_worth_2 = found.small_worth_2;
    }
