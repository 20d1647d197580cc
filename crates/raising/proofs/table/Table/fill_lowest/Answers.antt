use mathlib.Core.Path.{refl}
use native.Mathlib.Omega.{arith}
use lib.ListN.{length-set}
use Rattle.raising.specs.LowestTables.{no_cost_yet, some_item, next_cost_fits, one_cost_more}
use Rattle.raising.proofs.table.Table.fill_lowest.Goals as goal

pub loop-set-init : goal.loop-set-init
loop-set-init c = record { same_keys = refl; same_left = refl; costs_for_all = omega (arith, c.requires.costs_for_all); so_far = no_cost_yet c.fill_sizes.ensures }

pub overflow_sub-self : goal.overflow_sub-self
overflow_sub-self c = let at = c.loop-set in some_item at.invariant.so_far (omega arith) (omega arith)

pub overflow_mul-self : goal.overflow_mul-self
overflow_mul-self c =
    let at = c.loop-set in
    let ready = c.requires in
    omega (arith, next_cost_fits at.invariant.so_far (omega arith) (omega arith) ready.few_items ready.whole_limited)

pub loop-set-preserved : goal.loop-set-preserved
loop-set-preserved c =
    let at = c.loop-set in
    record { same_keys = at.invariant.same_keys; same_left = at.invariant.same_left; costs_for_all = rw (length-set at.self.costs at.set _) at.invariant.costs_for_all; so_far = one_cost_more at.invariant.so_far (omega arith) (omega arith) (omega arith) }
