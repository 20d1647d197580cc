use Prim.Native.Nat.{ℕ, ◌+◌, ◌*◌}
use mathlib.Core.Path.{◌≡◌, refl, ap, ap₂, ◌∙◌}
use native.Mathlib.Omega.{arith}
use borrow.Author.Rules.{rules}
use lib.ListN.{get_or}
use native.Mathlib.Numerals.{add-one}
use Rattle.laws.specs.Sums.{sum as sum_of}
use Rattle.timed_parts.specs.DualBoundLaws.{product_low, one_more_bounded}
use Rattle.timed_parts.proofs.dual_bound.priced_front.Goals as goal

pub loop-i-init : goal.loop-i-init
unfolding sum_of
loop-i-init c =
    (omega arith, refl, omega arith)

pub overflow_cast-sum : goal.overflow_cast-sum
overflow_cast-sum c = omega (arith, c.type_inv.ticks c.loop-i.i)

pub overflow_mul-sum : goal.overflow_mul-sum
overflow_mul-sum c = omega (arith, product_low (c.requires.by_index c.loop-i.i) (c.requires.by_index_2 c.loop-i.i))

pub overflow_add-sum : goal.overflow_add-sum
overflow_add-sum c =
    let inv = c.loop-i.invariant in
    omega (arith, product_low (c.requires.by_index c.loop-i.i) (c.requires.by_index_2 c.loop-i.i), inv.2, inv.0, c.requires.le_most_items.0)

pub loop-i-preserved : goal.loop-i-preserved
unfolding sum_of
loop-i-preserved c =
    let inv = c.loop-i.invariant in
    (search rules, rw add-one (ap₂ ◌+◌ inv.1 refl), one_more_bounded _ _ _ _ inv.2 (product_low (c.requires.by_index c.loop-i.i) (c.requires.by_index_2 c.loop-i.i)))

pub returns : goal.returns
returns c =
    let args = c.args in
    let inv = c.loop-i.invariant in
    let all : c.loop-i.i ≡ args.items = omega (arith, inv.0, c.loop-i-test.false) in
    record { value = inv.1 ∙ ap (sum_of (λ (j : ℕ). get_or args.prices.now j 0 * get_or args.ticks.now j 0)) all; upper_bound = rw all at inv.2 }
