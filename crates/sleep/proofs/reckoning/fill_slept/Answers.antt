use Prim.Native.Nat.{◌≤◌, ◌<◌}
use mathlib.Core.Path.{◌≡◌, refl, ap, ◌∙◌}
use native.Mathlib.Omega.{arith}
use lib.ListN.{length}
use Rattle.laws.specs.JoinedLaws.{length-list_of}
use Rattle.laws.specs.Lists.{list_of, onto}
use Rattle.laws.specs.OntoLaws.{length_onto, next_onto-list_of}
use Rattle.gaps.specs.declared.Slept.{Slept}
use Rattle.instance.specs.Held.{problem_in}
use Rattle.sleep.specs.HeldSleeps.{energy_of, sleeps_of, all_energies_onto, all_sleeps_onto}
use Rattle.sleep.proofs.reckoning.fill_slept.Goals as goal
use Rattle.sleep.proofs.reckoning.fill_slept.Goals.{After-loop-k, At-loop-k, In-loop-k}

cores_at_most : (c : goal.At-loop-k) → c.loop-k.k ≤ (problem_in c.args.inst).cores
unfolding problem_in
cores_at_most c = c.loop-k.invariant.0

core_below : (c : goal.In-loop-k) → c.loop-k.k < (problem_in c.args.inst).cores
unfolding problem_in
core_below c = c.loop-k-test.true

all_cores : (c : goal.After-loop-k) → c.loop-k.k ≡ (problem_in c.args.inst).cores
unfolding problem_in
all_cores c = omega (arith, c.loop-k.invariant.0, c.loop-k-test.false)

energies_length : (c : goal.At-loop-k) → length c.loop-k.energies ≡ length c.args.energies.now
energies_length c =
    ap length c.loop-k.invariant.1
    ∙ length_onto (list_of (energy_of _ _ _ _) c.loop-k.k) _ (rw length-list_of (omega (arith, cores_at_most c, c.requires.inst_in_bounds)))

sleeps_length : (c : goal.At-loop-k) → length c.loop-k.sleeps ≡ length c.args.sleeps.now
sleeps_length c =
    ap length c.loop-k.invariant.2
    ∙ length_onto (list_of (sleeps_of _ _ _ _) c.loop-k.k) _ (rw length-list_of (omega (arith, cores_at_most c, c.requires.inst_in_bounds_2)))

pub loop-k-init : goal.loop-k-init
unfolding onto list_of
loop-k-init c = (omega arith, refl, refl)

pub core_slept-slept-requires : goal.core_slept-slept-requires
core_slept-slept-requires c = let start = c in record { sound = start.requires.sound; table_len = start.requires.table_len; k_bound = omega (arith, core_below (goal.at.core_slept-slept-requires c).In-loop-k) }

pub bounds-energies-k : goal.bounds-energies-k
bounds-energies-k c = omega (arith, core_below (goal.at.bounds-energies-k c).In-loop-k, energies_length (goal.at.bounds-energies-k c).At-loop-k, c.requires.inst_in_bounds)

pub bounds-sleeps-k : goal.bounds-sleeps-k
bounds-sleeps-k c = omega (arith, core_below (goal.at.bounds-sleeps-k c).In-loop-k, sleeps_length (goal.at.bounds-sleeps-k c).At-loop-k, c.requires.inst_in_bounds_2)

pub loop-k-preserved : goal.loop-k-preserved
loop-k-preserved c =
    let start = c in
    let at = c.loop-k in
    let below = core_below (goal.at.loop-k-preserved c).In-loop-k in (
      omega (arith, c.loop-k-test.true),
      next_onto-list_of (energy_of _ _ _ _) _ at.k _ _ (omega (arith, below, start.requires.inst_in_bounds)) at.invariant.1 (ap (λ (s : Slept). s.energy) c.core_slept-slept.ensures),
      next_onto-list_of (sleeps_of _ _ _ _) _ at.k _ _ (omega (arith, below, start.requires.inst_in_bounds_2)) at.invariant.2 (ap (λ (s : Slept). s.sleeps) c.core_slept-slept.ensures),
    )

pub shape_of-energies : goal.shape_of-energies
shape_of-energies c = energies_length (goal.at.shape_of-energies c).At-loop-k

pub shape_of-sleeps : goal.shape_of-sleeps
shape_of-sleeps c = sleeps_length (goal.at.shape_of-sleeps c).At-loop-k

pub returns : goal.returns
returns c = let at = c.loop-k in record { energies_after = at.invariant.1 ∙ all_energies_onto _ _ _ _ _ _ (all_cores (goal.at.returns c).After-loop-k); sleeps_after = at.invariant.2 ∙ all_sleeps_onto _ _ _ _ _ _ (all_cores (goal.at.returns c).After-loop-k) }
