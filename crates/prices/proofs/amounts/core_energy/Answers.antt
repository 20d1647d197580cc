use Prim.Native.Nat.{◌+◌, ◌*◌, ◌≤◌}
use mathlib.Core.Path.{◌≡◌, refl, ap, ap₂, ◌∙◌}
use native.Mathlib.Numerals.{add-one}
use native.Mathlib.Omega.{arith}
use lib.ListN.{get_or}
use Rattle.laws.specs.Sums.{sum}
use Rattle.instance.specs.Held.{problem_in, held_span}
use Rattle.ranges.specs.Limits.{most_span, most_tasks}
use Rattle.plan_rules.specs.KeptColumns.{place_of}
use Rattle.plan_rules.specs.KeptSumLaws.{sum_of_kept, sum_of_kept_at_most, load_in_columns}
use Rattle.prices.specs.KeptEnergyLaws.{energy_from_columns, energy_in_columns}
use Rattle.prices.specs.PriceBounds.{energy_on, most_energy_on, power_at_most, energy_on-at_most, core_energy-at_most}
use Rattle.plan_rules.specs.QuantityBounds.{most_ticks, load_on-at_most}
use Rattle.plan_rules.specs.Quantities.{load_on}
use Rattle.prices.specs.Prices.{core_energy}
use Rattle.prices.proofs.amounts.core_energy.Goals as goal
use Rattle.prices.proofs.amounts.core_energy.Goals.{After-idle_energy, After-of_all_jobs-asked, In-loop-j}

its_load : (c : goal.After-of_all_jobs-asked) →
    let args = c.args in
    let kept = c.kept_tasks-kept.result in
    c.of_all_jobs-asked.result ≡ load_on (problem_in args.inst) args.plan.now args.k (place_of kept c.loop-j.j)
its_load c =
    c.of_all_jobs-asked.ensures
    ∙ load_in_columns _ _ _ _ c.kept_tasks-kept.ensures _ c.loop-j-test.true _
    (held_span _ c.requires.sound)

-- what is added up so far, and the next term
energy_so_far : (c : goal.In-loop-j) →
    let args = c.args in
    let kept = c.kept_tasks-kept.result in
    let its = energy_on (problem_in args.inst) args.plan.now args.k in
    let j = c.loop-j.j in
    sum_of_kept kept its j + its (place_of kept j) ≤ most_tasks * (most_energy_on)
energy_so_far c =
    let args = c.args in
    let v = c.requires.sound.valid in
    sum_of_kept_at_most _ _ _ _ c.kept_tasks-kept.ensures v _ _ (energy_on-at_most _ v args.plan.now args.k) _
    c.loop-j-test.true

load_so_far : (c : goal.In-loop-j) →
    let args = c.args in
    let kept = c.kept_tasks-kept.result in
    let its = load_on (problem_in args.inst) args.plan.now args.k in
    let j = c.loop-j.j in
    sum_of_kept kept its j + its (place_of kept j) ≤ most_tasks * (most_span * most_ticks)
load_so_far c =
    let args = c.args in
    let v = c.requires.sound.valid in
    sum_of_kept_at_most _ _ _ _ c.kept_tasks-kept.ensures v _ _ (λ i h. load_on-at_most _ v args.plan.now i h args.k) _
    c.loop-j-test.true

its_energy : (c : goal.After-of_all_jobs-asked) →
    let args = c.args in
    let kept = c.kept_tasks-kept.result in
    let j = c.loop-j.j in
    c.of_all_jobs-asked.result * get_or kept.powers j 0 ≡ energy_on (problem_in args.inst) args.plan.now args.k (place_of kept j)
its_energy c =
    energy_in_columns _ _ _ _ c.kept_tasks-kept.ensures _ c.loop-j-test.true _
    (its_load c)

pub loop-j-init : goal.loop-j-init
unfolding sum
loop-j-init c = (omega arith, refl, refl)

pub overflow_cast-busy : goal.overflow_cast-busy
overflow_cast-busy c =
    let called = c in
    let start = c in
    omega (
      arith,
      (called.kept_tasks-kept.ensures.held _ c.loop-j-test.true).same_power,
      power_at_most _ start.requires.sound.valid start.args.plan.now (place_of called.kept_tasks-kept.result c.loop-j.j),
    )

pub overflow_mul-busy : goal.overflow_mul-busy
overflow_mul-busy c = omega (arith, its_energy (goal.at.overflow_mul-busy c).After-of_all_jobs-asked, energy_so_far (goal.at.overflow_mul-busy c).In-loop-j)

pub overflow_add-busy : goal.overflow_add-busy
overflow_add-busy c =
    let same = ap₂ ◌+◌ c.loop-j.invariant.1 (its_energy (goal.at.overflow_add-busy c).After-of_all_jobs-asked) in
    omega (arith, energy_so_far (goal.at.overflow_add-busy c).In-loop-j)

pub overflow_add-load : goal.overflow_add-load
overflow_add-load c =
    let same = ap₂ ◌+◌ c.loop-j.invariant.2 (its_load (goal.at.overflow_add-load c).After-of_all_jobs-asked) in
    omega (arith, load_so_far (goal.at.overflow_add-load c).In-loop-j)

pub loop-j-preserved : goal.loop-j-preserved
unfolding sum
loop-j-preserved c = (
  omega (arith, c.loop-j-test.true),
  rw add-one (ap₂ ◌+◌ c.loop-j.invariant.1 (its_energy (goal.at.loop-j-preserved c).After-of_all_jobs-asked)),
  rw add-one (ap₂ ◌+◌ c.loop-j.invariant.2 (its_load (goal.at.loop-j-preserved c).After-of_all_jobs-asked)),
)

-- the core is charged what its columns come to
its_all : (c : goal.After-idle_energy) →
    let args = c.args in
    c.loop-j.busy + c.idle_energy.result ≡ core_energy (problem_in args.inst) args.plan.now args.k
unfolding problem_in
its_all c =
    let start = c in
    let kept = c.kept_tasks-kept.result in
    let at = c.loop-j in
    let at_end : at.j ≡ kept.count = omega (arith, at.invariant.0, c.loop-j-test.false) in
    let its = problem_in start.args.inst in
    rw c.idle_energy.ensures
    (energy_from_columns _ _ _ _ c.kept_tasks-kept.ensures _ _ _ _ refl (held_span _ start.requires.sound)
    (at.invariant.1 ∙ ap (sum_of_kept kept (energy_on its start.args.plan.now start.args.k)) at_end)
    (at.invariant.2 ∙ ap (sum_of_kept kept (load_on its start.args.plan.now start.args.k)) at_end))

pub overflow_add-result : goal.overflow_add-result
overflow_add-result c =
    let start = c in
    omega (arith, its_all (goal.at.overflow_add-result c).After-idle_energy, core_energy-at_most _ start.requires.sound.valid start.args.plan.now start.args.k)

pub returns : goal.returns
returns c = its_all (goal.at.returns c).After-idle_energy
