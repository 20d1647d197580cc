use native.Mathlib.Omega.{arith}
use borrow.Author.Tests.{leb-false}
use Rattle.timed_parts.specs.DualBoundLaws.{relaxed_fits, relaxed_not_cheaper}
use Rattle.timed_parts.proofs.dual_bound.relaxed_is_cheaper.Goals as goal

pub priced_front-front-requires : goal.priced_front-front-requires
priced_front-front-requires c =
    let pre = c.requires.by_index in
    let inside : _ = pre.6.behind in record { le_most_items = (omega (arith, pre.4.timed_items.few_items), omega (arith, pre.4.timed_items.few_items, pre.5.budgeted.places), omega (arith, pre.4.timed_items.few_items, pre.6.places)); by_index = pre.5.budgeted.low_prices; by_index_2 = pre.6.short }

pub priced_rest-later-requires : goal.priced_rest-later-requires
priced_rest-later-requires c =
    let pre = c.requires.by_index in
    record { item_le = (omega (arith, pre.6.behind), pre.4.timed_items.few_items, omega (arith, pre.4.timed_items.few_items, pre.5.places)); by_index = pre.5.low }

pub overflow_add-result : goal.overflow_add-result
overflow_add-result c =
    let pre = c.requires.by_index in
    let fits = relaxed_fits pre.4 pre.5 pre.6 _ _ c.priced_front-front.ensures.upper_bound c.priced_rest-later.ensures.upper_bound in
    omega (arith, fits)

pub overflow_add-result-2 : goal.overflow_add-result-2
overflow_add-result-2 c =
    let pre = c.requires.by_index in
    let fits = relaxed_fits pre.4 pre.5 pre.6 _ _ c.priced_front-front.ensures.upper_bound c.priced_rest-later.ensures.upper_bound in
    omega (arith, fits)

pub overflow_add-result-3 : goal.overflow_add-result-3
overflow_add-result-3 c =
    let pre = c.requires in omega (arith, pre.cost_le_no_cost, pre.by_index.5.budgeted.low_budget)

pub returns : goal.returns
returns c =
    let pre = c.requires.by_index in
    let fits = relaxed_fits pre.4 pre.5 pre.6 _ _ c.priced_front-front.ensures.upper_bound c.priced_rest-later.ensures.upper_bound in
    λ timings cost q T ready relaxes stands no.
    let dear = leb-false _ _ no in
    relaxed_not_cheaper ready relaxes stands _ _ c.priced_front-front.ensures.value c.priced_rest-later.ensures.value (omega (arith, fits)) dear
