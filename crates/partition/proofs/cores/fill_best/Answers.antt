use Prim.Native.Nat.{◌^◌}
use mathlib.Core.Path.{◌≡◌, refl, ◌∙◌}
use native.Mathlib.Omega.{arith}
use Rattle.assignment.specs.Keys.{key_base}
use Rattle.partition.specs.BestFilled.{first_core, copied, next_choices, next_core}
use Rattle.partition.specs.CoreLaws.{others_kept}
use Rattle.partition.proofs.cores.fill_best.Goals as goal

pub loop-c-init : goal.loop-c-init
loop-c-init c =
    let start = c in
    let ready = start.requires in
    let first = c.copy_entries in
    let second = c.copy_entries-2 in (
      copied (first_core ready.core_table) start.args.costs.now start.args.keys.now first.ensures second.ensures
          (omega (arith, ready.costs_for_all, first.auto.to)) (omega (arith, ready.keys_for_all, second.auto.to)),
      refl,
      refl,
    )

pub overflow_mul-shift : goal.overflow_mul-shift
unfolding key_base
overflow_mul-shift c = omega (arith, next_choices c.requires c.loop-c-test.true)

pub loop-c-preserved : goal.loop-c-preserved
loop-c-preserved c =
    let at = c.loop-c in
    let added = c.add_core in
    let same-costs = added.auto.costs in
    let same_keys = added.auto.keys in (
      next_core c.requires (omega arith) at.auto.c at.invariant.0 added.ensures same-costs same_keys,
      added.ensures.other_costs ∙ at.invariant.1,
      added.ensures.other_keys ∙ at.invariant.2,
    )

pub returns : goal.returns
returns c =
    let at = c.loop-c in
    let a = c.args in
    let sets = 2 ^ a.items in
    let all : at.c ≡ a.cores = omega arith in record { best_filled = rw all at at.invariant.0; costs_unchanged = at.invariant.1 ∙ others_kept a.corecosts.now sets a.costs.now c.copy_entries.ensures; keys_unchanged = at.invariant.2 ∙ others_kept a.corekeys.now sets a.keys.now c.copy_entries-2.ensures }
