use Prim.Native.Nat.{suc}
use mathlib.Core.Bool.{not}
use mathlib.Core.Path.{◌≡◌, sym, ap, ◌∙◌}
use native.Mathlib.Numerals.{add-one}
use native.Mathlib.Omega.{arith}
use borrow.Author.Count.{below_none}
use Rattle.laws.specs.FirstLaws.{first_unique}
use Rattle.laws.specs.Search.{first}
use Rattle.instance.specs.Held.{problem_in}
use Rattle.refusals.specs.VerdictLaws.{found_is_refused, none_found_passes}
use Rattle.refusals.specs.declared.Refusal.TheVariants.{CoreOverloaded}
use Rattle.plan_rules.specs.HeldPlans.{held_cores, cores_at_most}
use Rattle.plan_rules.specs.Plans.{fits, cores_fit}
use Rattle.plan_rules.proofs.plan.cores_fit.Goals as goal

pub overflow_cast-cores : goal.overflow_cast-cores
overflow_cast-cores c = omega (arith, cores_at_most _ c.requires.sound)

pub loop-k-init : goal.loop-k-init
loop-k-init c = (omega arith, below_none _)

pub core_fits-requires : goal.core_fits-requires
core_fits-requires c = c.requires

pub returns : goal.returns
unfolding cores_fit
returns c =
    let start = c in
    let wanted = held_cores _ start.requires.sound in
    let found : c.loop-k.k ≡
    first (λ k. not (fits (problem_in start.args.inst) start.args.plan.now k)) (problem_in start.args.inst).cores =
    sym (first_unique _ (record {
      at_most = omega (arith, c.loop-k.invariant.0, wanted);
      none_below = c.loop-k.invariant.1;
      passes_below = λ below. absurd (omega (arith, c.loop-k-test.false));
    })) in
    none_found_passes (λ n. CoreOverloaded (suc n)) _ _ wanted _ _ found c.loop-k-test.false

pub returns-then-not-core_fits : goal.returns-then-not-core_fits
unfolding cores_fit
returns-then-not-core_fits c =
    let start = c in
    let wanted = held_cores _ start.requires.sound in
    let found : c.loop-k.k ≡
    first (λ k. not (fits (problem_in start.args.inst) start.args.plan.now k)) (problem_in start.args.inst).cores =
    sym (first_unique _ (record {
      at_most = omega (arith, c.loop-k.invariant.0, wanted);
      none_below = c.loop-k.invariant.1;
      passes_below = λ below. ap not (sym c.core_fits.ensures ∙ c.if-not-core_fits.true);
    })) in
    rw add-one (found_is_refused (λ n. CoreOverloaded (suc n)) _ _ wanted _ _ found c.loop-k-test.true)
