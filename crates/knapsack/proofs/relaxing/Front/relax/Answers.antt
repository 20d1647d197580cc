use mathlib.Core.Path.{refl}
use native.Mathlib.Numerals.{add-one}
use native.Mathlib.Omega.{arith}
use Rattle.knapsack.specs.RelaxedItems.{knapsack_of_no_level, knapsack_of_one_more, choice_fits, knapsack_sums_fit}
use Rattle.knapsack.proofs.relaxing.Front.relax.Goals as goal

pub loop-l-init : goal.loop-l-init
loop-l-init c = (refl, refl, knapsack_of_no_level c.requires.flat_knapsack)

pub choice_at-choice-requires : goal.choice_at-choice-requires
choice_at-choice-requires c = choice_fits c.requires.item_before c.loop-l-test.true

pub relax-requires-clause-knapsack_sums_fit : goal.relax-requires-clause-knapsack_sums_fit
relax-requires-clause-knapsack_sums_fit c =
    knapsack_sums_fit c.requires.item_before c.loop-l-test.true c.choice_at-choice.ensures

pub loop-l-preserved : goal.loop-l-preserved
loop-l-preserved c =
    let pre = c.requires in
    let at = c.loop-l in
    let called = c.relax in (
      omega arith,
      omega arith,
      rw add-one
          (knapsack_of_one_more pre.item_before c.loop-l-test.true c.choice_at-choice.ensures at.invariant.2 called.ensures),
    )
