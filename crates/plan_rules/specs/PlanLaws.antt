-- What choices name, and what a plan that passes has.
use Rattle.refusals.specs.Refusals.{accepted}
use Rattle.std.specs.Prelude.{ℕ, suc, pred, ◌+◌, ◌*◌, ◌<◌, ◌≤◌, true, List, ◌↔◌, ◌≡◌}
use Rattle.std.proofs.Math.Bool.{not}
use Rattle.std.proofs.Math.Path.{ap}
use Rattle.std.proofs.Common.{div-add-mod', div-lt_iff_lt-mul, mod-lt, pos_of_ne-zero, arith}
use Rattle.std.proofs.Math.Arith.{digits_div, digits_mod}
use borrow.Author.Tests.{not-false}
use Rattle.instance.specs.Node.{Problem, level_count}
use Rattle.plan_rules.specs.AllowedPlanLaws.{choices_pass-iff}
use Rattle.plan_rules.specs.AllowedPlans.{AllowedPlan}
use Rattle.plan_rules.specs.Plans.{most_choice, fits, cores_fit, plan_passes}
use Rattle.plan_rules.specs.Quantities.{choice_at, core_of, level_of}
use Rattle.refusals.specs.VerdictLaws.{and_then-accepts, none_refused}

-- "0 refused, else (core − 1) × H + level", with core and level counted from 0 as here: such a choice names that core and
-- that level ..
pub choice_names_core_and_level : (p : Problem) (plan : List ℕ) (i core level : ℕ) → level < level_count p →
    choice_at plan i ≡ core * level_count p + suc level → (core_of p plan i ≡ core) × (level_of p plan i ≡ level)
choice_names_core_and_level p plan i core level l e =
    let before : pred (choice_at plan i) ≡ core * level_count p + level = omega arith in
    rw before (digits_div core l, digits_mod core l)

-- .. and each choice up to M × H but 0 is that of a core and a level
pub record NamesCoreAndLevel (p : Problem) (plan : List ℕ) (i : ℕ) : Type 0 where
  pub is_core : core_of p plan i < p.cores
  pub is_level : level_of p plan i < level_count p
  pub its_number : choice_at plan i ≡ core_of p plan i * level_count p + suc (level_of p plan i)

pub choice_in_range_names : (p : Problem) (plan : List ℕ) (i : ℕ) → (choice_at plan i ≡ 0 → ⊥) → choice_at plan i ≤ most_choice p →
    NamesCoreAndLevel p plan i
choice_in_range_names p plan i kept within =
    let above : 0 < choice_at plan i = pos_of_ne-zero kept in
    let some_level : 0 < level_count p = pos_of_ne-zero (λ none. omega (arith, ap (λ (n : ℕ). p.cores * n) none)) in
    record {
      is_core = (div-lt_iff_lt-mul some_level).1 (omega arith);
      is_level = mod-lt _ some_level;
      its_number = omega (arith, div-add-mod' (pred (choice_at plan i)) (level_count p));
    }

module _ (p : Problem) (plan : List ℕ) where
  pub cores_fit_iff : (cores_fit p plan ≡ accepted) ↔ ((k : ℕ) → k < p.cores → fits p plan k ≡ true)
  unfolding cores_fit
  cores_fit_iff = (
    λ e k h. not-false _ ((none_refused _ _ _).0 e k h),
    λ fit. (none_refused _ _ _).1 (λ k h. ap not (fit k h)),
  )

pub record PassingPlan (p : Problem) (plan : List ℕ) : Type 0 where
  pub allowed : AllowedPlan p plan
  pub core_fits : (k : ℕ) → k < p.cores → fits p plan k ≡ true

pub passing_plan : (p : Problem) (plan : List ℕ) → plan_passes p plan ≡ accepted → PassingPlan p plan
unfolding plan_passes
passing_plan p plan e =
    let both = (and_then-accepts _ _).0 e in
    record { allowed = (choices_pass-iff p plan).0 both.0; core_fits = (cores_fit_iff p plan).0 both.1 }
