use Prim.Native.Nat.{◌+◌}
use mathlib.Core.Path.{◌≡◌, refl, ap, ap₂, ◌∙◌}
use native.Mathlib.Numerals.{add-one}
use native.Mathlib.Omega.{arith}
use Rattle.laws.specs.SumBounds.{sum_and_next_at_most}
use Rattle.laws.specs.Sums.{sum}
use Rattle.instance.specs.Held.{problem_in}
use Rattle.plan_rules.specs.HeldPlans.{held_cores, cores_at_most}
use Rattle.prices.specs.PriceBounds.{most_core_energy, core_energy-at_most}
use Rattle.prices.specs.Prices.{core_energy, energy}
use Rattle.prices.proofs.amounts.all_energy.Goals as goal

pub overflow_cast-cores : goal.overflow_cast-cores
overflow_cast-cores c = omega (arith, cores_at_most _ c.requires.sound)

pub loop-k-init : goal.loop-k-init
unfolding sum
loop-k-init c = (omega arith, refl)

pub core_energy-total-requires : goal.core_energy-total-requires
core_energy-total-requires c = c.requires

pub overflow_add-total : goal.overflow_add-total
overflow_add-total c = let start = c in
    let s = start.requires.sound in
    let at = c.loop-k in
    let p = problem_in start.args.inst in
    let same = ap₂ ◌+◌ at.invariant.1 c.core_energy-total.ensures in
    omega (
      arith,
      sum_and_next_at_most
          (core_energy p start.args.plan.now)
          most_core_energy
          p.cores
          at.k
          (λ k h. core_energy-at_most p s.valid start.args.plan.now k)
          (omega (arith, held_cores _ s, c.loop-k-test.true)),
      s.valid.cores.at_most,
    )

pub loop-k-smaller : goal.loop-k-smaller
loop-k-smaller c = omega arith

pub loop-k-preserved : goal.loop-k-preserved
unfolding sum
loop-k-preserved c = (omega arith, rw add-one (ap₂ ◌+◌ c.loop-k.invariant.1 c.core_energy-total.ensures))

pub returns : goal.returns
unfolding energy
returns c = let start = c in
    let at = c.loop-k in
    let at_end : at.k ≡ (problem_in start.args.inst).cores =
    omega (arith, at.invariant.0, held_cores _ start.requires.sound, c.loop-k-test.false) in
    at.invariant.1 ∙ ap (sum (core_energy _ _)) at_end
